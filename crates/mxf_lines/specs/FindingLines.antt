-- The lines of a check (this project's profile).
use Rattle.std.specs.Prelude.{ℕ, ◌+◌, [], ◌∷◌, ◌++◌, codes}
use Rattle.mxf_read.specs.declared.gathering.report.PieceReport.{PieceReport}
use Rattle.mxf_findings.specs.Codes.{code_name, code_text}
use Rattle.mxf_findings.specs.declared.finding.Finding.{Finding}
use Rattle.mxf_forms.specs.Forms.{PrintedLine, line, line_of, number, number_member, word}
use Rattle.mxf_lines.specs.Lines.{stop_fields}

-- The line of a piece that doesn't end with a packet: its offset, its stop and, in JSON, the number of its source, from
-- 1.
unfoldable pub stop_line : PieceReport → PrintedLine
stop_line r =
    line "stop" (number " " "offset" r.offset
    ∷ (stop_fields (codes " ") r.report.stop ++ number_member "source" (r.part + 1) ∷ []))

-- The line of a finding: its code, its offset, and what the code says.
unfoldable pub finding_line : Finding → PrintedLine
finding_line f =
    line_of (codes "finding") [] (word "" "code" (code_name f.code) ∷ number " " "offset" f.offset
    ∷ word " " "text" (code_text f.code) ∷ []) []

-- The last line: how many findings there are.
unfoldable pub count_line : ℕ → PrintedLine
count_line count = line "findings" (number " " "findings" count ∷ [])
