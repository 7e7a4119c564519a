-- The lines of what is in doubt (this project's profile).
use Rattle.std.specs.Prelude.{ℕ, [], ◌∷◌}
use Rattle.mxf_doubts.specs.Codes.{code_name, code_text}
use Rattle.mxf_doubts.specs.declared.doubt.Doubt.{Doubt}
use Rattle.mxf_forms.specs.Forms.{PrintedLine, line, number, word}

-- The line of a doubt: its code, its offset, and what the code says.
unfoldable pub doubt_line : Doubt → PrintedLine
doubt_line d =
    line "doubt" (word " " "code" (code_name d.code) ∷ number " " "offset" d.offset
    ∷ word " " "text" (code_text d.code) ∷ [])

-- The last line: how many doubts there are.
unfoldable pub doubt_count_line : ℕ → PrintedLine
doubt_count_line count = line "doubts" (number " " "doubts" count ∷ [])
