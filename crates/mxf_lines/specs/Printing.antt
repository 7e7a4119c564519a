-- The lines that are printed of what a run gathers, and what a call that prints lines answers (this project's profile).
use Rattle.std.specs.Prelude.{ℕ, ◌≡◌, ◌<◌, List, [], ◌∷◌, ◌++◌, length, take, Result, Ok, Err, Option, None, Some}
use Rattle.std.specs.Prelude.{flat_map}
use Rattle.mxf_klv.specs.Parts.{NoteParts}
use Rattle.mxf_klv.specs.declared.writing.WriteFault.{WriteFault}
use Rattle.mxf_catalogue.specs.Disputes.{clear_notes, is_disputed}
use Rattle.mxf_views.specs.Copies.{copies_of, preferred_of}
use Rattle.mxf_views.specs.Gaps.{gaps_of}
use Rattle.mxf_views.specs.Partitions.{chain_of, partitions_of}
use Rattle.mxf_views.specs.Places.{segments_of}
use Rattle.mxf_views.specs.RandomIndexView.{rip_view_of}
use Rattle.mxf_references.specs.Resolved.{resolved_of}
use Rattle.mxf_skim.specs.declared.scan.Scan.{Scan}
use Rattle.mxf_lines.specs.declared.printing.AnswerFault.{AnswerFault}
use Rattle.mxf_lines.specs.declared.printing.AnswerFault.TheVariants.{OutOfMemory, Write, BadUnit}
use Rattle.mxf_forms.specs.declared.form.Form.{Form}
use Rattle.mxf_forms.specs.Forms.{PrintedLine, lines_in}
use Rattle.mxf_lines.specs.Lines.{chain_line, copy_line, gap_line, note_line, preferred_line, shown_by}
use Rattle.mxf_lines.specs.IndexLines.{rip_lines, segment_line}
use Rattle.mxf_lines.specs.ItemLines.{set_lines}
use Rattle.mxf_lines.specs.PartitionLines.{partition_lines}
use Rattle.mxf_lines.specs.ReferenceLines.{reference_lines}

-- The lines of what a content's copies, index table segments and random index pack say: of each copy, of the preferred
-- copy, of the items of each clear set, of what the references of the preferred copy lead to, of each index table
-- segment, and of the random index pack.
abbrev pub metadata_lines : List NoteParts → List PrintedLine
metadata_lines content =
    flat_map (λ copy. copy_line copy ∷ []) (copies_of content)
    ++ (preferred_line (preferred_of (copies_of content))
    ∷ (flat_map (set_lines content) (clear_notes content)
    ++ (reference_lines content (resolved_of content)
    ++ (flat_map (λ s. segment_line s ∷ []) (segments_of content)
    ++ rip_lines (rip_view_of content)))))

-- The lines of a content, by a scan: of each note, gap and partition, of the chain, and then those above.
abbrev pub content_lines : Scan → List NoteParts → List PrintedLine
content_lines scan content =
    flat_map (λ n. note_line (shown_by scan n) (is_disputed n content) ∷ []) content
    ++ (flat_map (λ gap. gap_line gap ∷ []) (gaps_of content)
    ++ (flat_map (partition_lines (partitions_of content)) (partitions_of content)
    ++ (chain_line (chain_of content) ∷ metadata_lines content)))

-- What a call answers that prints lines in a form, if `Wrote` says what a writer took: all bytes of the lines; or the
-- writer failed among them; or memory ran out, after some whole lines and before the last. It tests no edit unit.
abbrev pub Prints : {X : Type 0} → Form → (Result (Unit {0}) WriteFault → List ℕ → Type 0) → Result X AnswerFault
    → List PrintedLine → Type 0
Prints form Wrote (Ok x) lines = Wrote (Ok tt) (lines_in form lines)
Prints form Wrote (Err (Write fault)) lines = Wrote (Err fault) (lines_in form lines)
Prints form Wrote (Err OutOfMemory) lines =
    (k : ℕ) × (k < length lines) × Wrote (Ok tt) (lines_in form (take k lines))
Prints form Wrote (Err BadUnit) lines = ⊥

-- What a call answers that gives the next of some items, by how many are left and what their lines are: none if
-- none is left, otherwise the first, and the others are left.
abbrev pub Gives : {S X : Type 0} → (S → ℕ) → (S → List PrintedLine) → (X → List PrintedLine) → S → S → Option X
    → Type 0
Gives left lines_left lines old new None = lines_left old ≡ []
Gives left lines_left lines old new (Some x) = (left new < left old) × (lines_left old ≡ lines x ++ lines_left new)
