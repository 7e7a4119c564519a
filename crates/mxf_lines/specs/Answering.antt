-- What a run is answered: its lines and its status (this project's profile).
use Rattle.std.specs.Prelude.{ℕ, ◌<◌, ◌==◌, ◌&&◌, if◌then◌else◌, Bool, true, false, List, [], ◌∷◌, ◌++◌, length, Option}
use Rattle.std.specs.Prelude.{Result, Ok, Err, flat_map, is_none}
use Rattle.std.specs.List.{list_all}
use Rattle.mxf_klv.specs.Parts.{NoteParts}
use Rattle.mxf_klv.specs.declared.piece.Stop.{Stop}
use Rattle.mxf_klv.specs.declared.piece.Stop.TheVariants.{End}
use Rattle.mxf_klv.specs.declared.writing.WriteFault.{WriteFault}
use Rattle.mxf_catalogue.specs.Disputes.{disputed_notes}
use Rattle.mxf_doubts.specs.Doubts.{doubts_of}
use Rattle.mxf_doubts.specs.declared.doubt.Doubt.{Doubt}
use Rattle.mxf_findings.specs.Findings.{findings_of}
use Rattle.mxf_views.specs.Places.{greatest_unit, place_of, segments_of}
use Rattle.mxf_findings.specs.declared.finding.Finding.{Finding}
use Rattle.mxf_views.specs.declared.index.place.Place.{Place}
use Rattle.mxf_views.specs.declared.index.place.Place.TheVariants.{At}
use Rattle.mxf_places.specs.AtHand.{AtHandParts}
use Rattle.mxf_restore.specs.Disputes.{disputes_of}
use Rattle.mxf_restore.specs.Plan.{PlanParts, plan_of}
use Rattle.mxf_restore.specs.declared.disputes.Disputes.{Disputes}
use Rattle.mxf_read.specs.declared.gathering.report.PieceReport.{PieceReport}
use Rattle.mxf_asked.specs.declared.ask.Ask.{Ask}
use Rattle.mxf_asked.specs.declared.ask.Ask.TheVariants.{Show, Check, Doubts, Describe, Locate, Join, Plan}
use Rattle.mxf_lines.specs.declared.printing.AnswerFault.{AnswerFault}
use Rattle.mxf_lines.specs.declared.printing.AnswerFault.TheVariants.{BadUnit}
use Rattle.mxf_lines.specs.DescriptionLines.{description_lines, description_status}
use Rattle.mxf_lines.specs.DoubtLines.{doubt_count_line, doubt_line}
use Rattle.mxf_lines.specs.FindingLines.{count_line, finding_line, stop_line}
use Rattle.mxf_lines.specs.IndexLines.{place_line}
use Rattle.mxf_forms.specs.declared.form.Form.{Form}
use Rattle.mxf_forms.specs.Forms.{PrintedLine}
use Rattle.mxf_lines.specs.Lines.{join_line, piece_line}
use Rattle.mxf_lines.specs.PlanLines.{plan_lines}
use Rattle.mxf_lines.specs.Printing.{Prints, content_lines}

-- A line for each report of a piece.
abbrev pub report_lines : List PieceReport → List PrintedLine
report_lines reports = flat_map (λ r. piece_line r ∷ []) reports

-- The piece ends with a packet.
abbrev pub is_end : Stop → Bool
is_end End = true
is_end _ = false

-- The line of a piece that doesn't end with a packet, none of another.
abbrev pub stop_lines : PieceReport → List PrintedLine
stop_lines r = if is_end r.report.stop then [] else stop_line r ∷ []

-- The lines of findings, and then how many there are.
abbrev pub finding_lines : List Finding → List PrintedLine
finding_lines findings = flat_map (λ f. finding_line f ∷ []) findings ++ count_line (length findings) ∷ []

-- The lines of a check: of the pieces that don't end with a packet, and of the findings of the content.
abbrev pub check_lines : List PieceReport → List NoteParts → List PrintedLine
check_lines reports content = flat_map stop_lines reports ++ finding_lines (findings_of content)

-- The lines of doubts, and then how many there are.
abbrev pub doubt_lines : List Doubt → List PrintedLine
doubt_lines doubts = flat_map (λ d. doubt_line d ∷ []) doubts ++ doubt_count_line (length doubts) ∷ []

-- The lines of a check, and behind them those of what is in doubt in the content.
abbrev pub doubted_lines : List PieceReport → List NoteParts → List PrintedLine
doubted_lines reports content = check_lines reports content ++ doubt_lines (doubts_of content)

-- The line of a content that was joined: the number of its notes, and of its disputed ones.
abbrev pub join_lines : List NoteParts → List PrintedLine
join_lines content = join_line (length content) (length (disputed_notes content)) ∷ []

-- The lines that are asked for, of pieces with these reports, of what is at hand, and of a content.
abbrev pub answer_lines : Ask → List PieceReport → AtHandParts → List NoteParts → List PrintedLine
answer_lines (Show scan) reports at content = report_lines reports ++ content_lines scan content
answer_lines Check reports at content = check_lines reports content
answer_lines Doubts reports at content = doubted_lines reports content
answer_lines Describe reports at content = description_lines content
answer_lines (Locate index unit) reports at content = place_line (place_of (segments_of content) index unit) ∷ []
answer_lines Join reports at content = join_lines content
answer_lines Plan reports at content = plan_lines (disputes_of content) (plan_of at content)

-- 0 if all pieces end with a packet and nothing is found, otherwise 1.
abbrev pub check_status : List PieceReport → List Finding → ℕ
check_status reports findings = if list_all (λ r. is_end r.report.stop) reports && length findings == 0 then 0 else 1

-- 0 if all pieces end with a packet, nothing is found, and nothing is in doubt, otherwise 1.
abbrev pub doubted_status : List PieceReport → List Finding → List Doubt → ℕ
doubted_status reports findings doubts = if length doubts == 0 then check_status reports findings else 1

-- 0 for the one place of an edit unit, otherwise 1.
abbrev pub place_status : Place → ℕ
place_status (At body_sid offset) = 0
place_status _ = 1

-- 1 if there is something to restore, or a packet is disputed, otherwise 0.
abbrev pub plan_status : Option Disputes → PlanParts → ℕ
plan_status disputes p = if length p.orders == 0 && is_none disputes then 0 else 1

-- The status of what is asked for.
abbrev pub answer_status : Ask → List PieceReport → AtHandParts → List NoteParts → ℕ
answer_status (Show scan) reports at content = 0
answer_status Check reports at content = check_status reports (findings_of content)
answer_status Doubts reports at content = doubted_status reports (findings_of content) (doubts_of content)
answer_status Describe reports at content = description_status content
answer_status (Locate index unit) reports at content = place_status (place_of (segments_of content) index unit)
answer_status Join reports at content = 0
answer_status Plan reports at content = plan_status (disputes_of content) (plan_of at content)

-- An edit unit above the greatest is asked for.
abbrev pub IsBadAsk : Ask → Type 0
IsBadAsk (Show scan) = ⊥
IsBadAsk Check = ⊥
IsBadAsk Doubts = ⊥
IsBadAsk Describe = ⊥
IsBadAsk (Locate index unit) = greatest_unit < unit
IsBadAsk Join = ⊥
IsBadAsk Plan = ⊥

-- What is answered, if `Wrote` says what a writer took: the edit unit is a bad one, and nothing was written; or what
-- a call answers that prints the lines in the form.
abbrev pub Answers : Form → (Result (Unit {0}) WriteFault → List ℕ → Type 0) → Result ℕ AnswerFault
    → List PrintedLine → Type 0
Answers form Wrote (Err BadUnit) lines = Wrote (Ok tt) []
Answers form Wrote answered lines = Prints form Wrote answered lines
