-- What is printed of a skim, beside what is printed of a reading (this project's profile).
use Rattle.std.specs.Prelude.{◌≡◌, ◌++◌, if◌then◌else◌, ℕ, true, List, map, codes}
use Rattle.std.specs.Str.{bytes_eq}
use Rattle.mxf_klv.specs.Parts.{NoteParts}
use Rattle.mxf_catalogue.specs.Disputes.{is_disputed}
use Rattle.mxf_skim.specs.PassedOver.{is_passed_over}
use Rattle.mxf_skim.specs.declared.scan.Scan.TheVariants.{Full, Skim}
use Rattle.mxf_places.specs.AtHand.{AtHandParts}
use Rattle.mxf_read.specs.declared.gathering.report.PieceReport.{PieceReport}
use Rattle.mxf_asked.specs.declared.ask.Ask.{Ask}
use Rattle.mxf_asked.specs.declared.ask.Ask.TheVariants.{Check, Describe, Doubts, Join, Locate, Show}
use Rattle.mxf_forms.specs.Forms.{Field, PrintedLine, flag}
use Rattle.mxf_lines.specs.Answering.{answer_lines, answer_status, report_lines}
use Rattle.mxf_lines.specs.Lines.{note_line}
use Rattle.mxf_skimmed.specs.Skims.{noted_beside}

-- What is asked for has the same lines and the same status of both contents, if the reports of pieces are the same, and
-- whatever is at hand.
pub record AnswersTheSame (ask : Ask) (a b : List NoteParts) : Type 0 where
  pub lines : (reports : List PieceReport) (at beside : AtHandParts)
      → answer_lines ask reports at a ≡ answer_lines ask reports beside b
  pub status : (reports : List PieceReport) (at beside : AtHandParts)
      → answer_status ask reports at a ≡ answer_status ask reports beside b

-- The same field, but that of heads says that it is one.
abbrev pub said_head : Field → Field
said_head f = if bytes_eq f.name (codes "head") then flag " head" "head" true else f

-- The same line of a note, but that it says that the note is a head.
abbrev pub with_head : PrintedLine → PrintedLine
with_head l = record l { fields = map said_head l.fields }

-- The line of one of the notes of a reading.
abbrev pub read_line : List NoteParts → NoteParts → PrintedLine
read_line notes n = note_line n (is_disputed n notes)

-- The line that a skim has for it, beside catalogues that have the first notes: with ` head`, if its packet was passed
-- over.
abbrev pub skim_line : List NoteParts → List NoteParts → NoteParts → PrintedLine
skim_line saved notes n =
    if is_passed_over (noted_beside saved n) then with_head (read_line notes n) else read_line notes n

-- `show` prints of both the lines of the pieces, one for each note of the reading, and then the same other lines. Its
-- status is the same.
pub record ShowsTheSame (saved notes skim : List NoteParts) : Type 0 where
  pub others : List PrintedLine
  pub by_reading : (reports : List PieceReport) (at : AtHandParts)
      → answer_lines (Show Full) reports at notes ≡ report_lines reports ++ (map (read_line notes) notes ++ others)
  pub by_skim : (reports : List PieceReport) (at : AtHandParts)
      → answer_lines (Show Skim) reports at skim ≡ report_lines reports ++ (map (skim_line saved notes) notes ++ others)
  pub status : (reports : List PieceReport) (at beside : AtHandParts)
      → answer_status (Show Skim) reports at skim ≡ answer_status (Show Full) reports beside notes

-- What is printed of a skim for these requests is what is printed of the reading, but for the lines of notes.
pub record PrintsTheSame (saved notes skim : List NoteParts) : Type 0 where
  pub show : ShowsTheSame saved notes skim
  pub check : AnswersTheSame Check skim notes
  pub doubts : AnswersTheSame Doubts skim notes
  pub describe : AnswersTheSame Describe skim notes
  pub locate : (index unit : ℕ) → AnswersTheSame (Locate index unit) skim notes
  pub join : AnswersTheSame Join skim notes
