-- The lines of a renewal (this project's profile).
use Rattle.std.specs.Prelude.{ℕ, Bool, true, false, List, [], ◌∷◌, ◌++◌, codes, flat_map, length}
use Rattle.mxf_klv.specs.Parts.{NoteParts}
use Rattle.mxf_catalogue.specs.Disputes.{disputed_notes}
use Rattle.mxf_forms.specs.Forms.{PrintedLine, line, line_of, number}
use Rattle.mxf_lines.specs.Lines.{note_fields}

-- The line of a note that was dropped: what it says.
unfoldable pub dropped_line : NoteParts → PrintedLine
dropped_line n = line "dropped" (note_fields n)

-- The name of the last line, and its words: whether the renewed content is saved.
abbrev pub renewed_name : Bool → List ℕ
renewed_name true = codes "renewed"
renewed_name false = codes "not-renewed"

abbrev pub renewed_words : Bool → List ℕ
renewed_words true = codes "renewed"
renewed_words false = codes "not renewed"

-- The last line: whether the content is saved, the number of its notes, how many of them are disputed, and how many
-- were dropped.
unfoldable pub renewed_line : Bool → ℕ → ℕ → ℕ → PrintedLine
renewed_line is_saved notes disputed dropped =
    line_of (renewed_name is_saved) (renewed_words is_saved) (number " " "notes" notes
    ∷ number " notes " "disputed" disputed ∷ number " disputed " "dropped" dropped ∷ []) (codes " dropped")

-- The lines of a renewed content, which is saved or isn't, and of the notes that were dropped: of each of these, and
-- the last.
abbrev pub renewal_lines : Bool → List NoteParts → List NoteParts → List PrintedLine
renewal_lines is_saved content dropped =
    flat_map (λ n. dropped_line n ∷ []) dropped
    ++ renewed_line is_saved (length content) (length (disputed_notes content)) (length dropped) ∷ []
