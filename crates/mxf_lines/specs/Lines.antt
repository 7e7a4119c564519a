-- The lines that are printed (this project's profile). Numbers are decimal.
use Rattle.std.specs.Prelude.{ℕ, ◌+◌, ◌-◌, Bool, true, false, List, [], ◌∷◌, ◌++◌, codes, not, Option, None, Some}
use Rattle.std.specs.Prelude.{option_map}
use Rattle.mxf_skim.specs.Saving.{saved_note}
use Rattle.mxf_skim.specs.declared.scan.Scan.{Scan}
use Rattle.mxf_skim.specs.declared.scan.Scan.TheVariants.{Full, Skim}
use Rattle.mxf_klv.specs.Kind.{kind_of}
use Rattle.mxf_klv.specs.Note.{end_of}
use Rattle.mxf_klv.specs.Parts.{NoteParts}
use Rattle.mxf_klv.specs.Words.{kind_name, stop_name}
use Rattle.mxf_klv.specs.declared.piece.Stop.{Stop}
use Rattle.mxf_klv.specs.declared.piece.Stop.TheVariants.{End, NotUl, BadLength, TooFar, Truncated, NoStart}
use Rattle.mxf_catalogue.specs.declared.run.Run.{Run}
use Rattle.mxf_read.specs.declared.gathering.report.PieceReport.{PieceReport}
use Rattle.mxf_views.specs.declared.chain.Chain.{Chain}
use Rattle.mxf_views.specs.declared.copy.CopyInfo.{CopyInfo}
use Rattle.mxf_views.specs.Words.{chain_name}
use Rattle.mxf_forms.specs.Forms.{Characters, Field, PrintedLine, field, flag, known, line, line_of, number}
use Rattle.mxf_forms.specs.Forms.{number_member, word}
use Rattle.mxf_forms.specs.Hexadecimal.{hex_of}

-- The lines of what is there, and none if it isn't.
abbrev pub lines_where : {X : Type 0} → (X → List PrintedLine) → Option X → List PrintedLine
lines_where lines None = []
lines_where lines (Some x) = lines x

-- The offset of a stop, if it has one.
abbrev pub stop_place : Stop → List Field
stop_place End = []
stop_place (NotUl at) = number " " "at" at ∷ []
stop_place (BadLength at) = number " " "at" at ∷ []
stop_place (TooFar at) = number " " "at" at ∷ []
stop_place (Truncated at) = number " " "at" at ∷ []
stop_place (NoStart at) = number " " "at" at ∷ []

-- A stop: its word, and at which offset.
abbrev pub stop_fields : List ℕ → Stop → List Field
stop_fields before stop = field before (codes "stop") (Characters (stop_name stop)) ∷ stop_place stop

-- The line of a piece: its offset, the number of its packets, its stop and, in JSON, the number of its source, from 1.
unfoldable pub piece_line : PieceReport → PrintedLine
piece_line r =
    line "piece" (number " " "offset" r.offset ∷ number " noted " "noted" r.report.noted
    ∷ (stop_fields (codes " stop ") r.report.stop ++ number_member "source" (r.part + 1) ∷ []))

-- The line of a join: the number of notes, and how many of them are disputed.
unfoldable pub join_line : ℕ → ℕ → PrintedLine
join_line notes disputed =
    line_of (codes "joined") (codes "joined") (number " " "notes" notes ∷ number " notes " "disputed" disputed ∷ [])
    (codes " disputed")

-- What a note says: its offset, its kind, the width and value of its length, its key, and whether it is a head.
abbrev pub note_fields : NoteParts → List Field
note_fields n =
    number " " "offset" n.offset ∷ word " " "kind" (kind_name (kind_of n.key)) ∷ number " " "width" n.width
    ∷ number " " "length" n.length ∷ word " " "key" (hex_of n.key) ∷ flag " head" "head" (not n.whole) ∷ []

-- What is shown of a note by a scan: by a skim the head of a packet that was passed over.
abbrev pub shown_by : Scan → NoteParts → NoteParts
shown_by Full n = n
shown_by Skim n = saved_note n

-- The line of a note: what it says, whether it is disputed, and in JSON the offset after its last byte.
unfoldable pub note_line : NoteParts → Bool → PrintedLine
note_line n disputed =
    line "note" (note_fields n ++ flag " disputed" "disputed" disputed ∷ number_member "end" (end_of n) ∷ [])

-- The line of a gap: where it begins and ends, and in JSON how many bytes it has.
unfoldable pub gap_line : Run → PrintedLine
gap_line gap =
    line "gap" (number " " "start" gap.start ∷ number " " "end" gap.end
    ∷ number_member "length" (gap.end - gap.start) ∷ [])

-- The line of the chain of the partitions.
unfoldable pub chain_line : Chain → PrintedLine
chain_line chain = line "chain" (word " " "chain" (chain_name chain) ∷ [])

abbrev pub finished_word : Bool → List ℕ
finished_word true = codes "finished"
finished_word false = codes "unfinished"

-- The line of a copy: its partition, its start, the bytes stated and covered, and whether it is finished.
unfoldable pub copy_line : CopyInfo → PrintedLine
copy_line copy =
    line "copy" (number " " "partition" copy.partition ∷ known " start " "start" "none" copy.start
    ∷ number " bytes " "bytes" copy.bytes ∷ number " covered " "covered" copy.covered
    ∷ word " " "state" (finished_word copy.finished) ∷ [])

-- The line of the preferred copy: its partition.
unfoldable pub preferred_line : Option CopyInfo → PrintedLine
preferred_line copy = line "preferred" (known " " "partition" "none" (option_map (λ c. c.partition) copy) ∷ [])
