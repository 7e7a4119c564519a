-- The lines of several sources beside each other (this project's profile).
use Rattle.std.specs.Prelude.{ℕ, ◌+◌, ◌==◌, if◌then◌else◌, List, [], ◌∷◌, ◌++◌, codes, flat_map, length}
use Rattle.sha2.specs.Sha256.{sha256}
use Rattle.mxf_klv.specs.Note.{keeps_value}
use Rattle.mxf_klv.specs.Parts.{NoteParts}
use Rattle.mxf_catalogue.specs.Disputes.{DisputedParts, disputed_notes}
use Rattle.mxf_readings.specs.Readings.{all_notes, counts_of, sources_of}
use Rattle.mxf_readings.specs.declared.readings.SourceCounts.{SourceCounts}
use Rattle.mxf_forms.specs.Forms.{Absent, Characters, PrintedLine, Value, field, line, number, numbers, word}
use Rattle.mxf_forms.specs.Hexadecimal.{hex_of}
use Rattle.mxf_lines.specs.Lines.{note_fields}

-- The line of a source: its number, how many notes it has, of how many it is the only source, how many of them are
-- disputed, and the word that names it.
unfoldable pub source_line : ℕ → SourceCounts → List ℕ → PrintedLine
source_line source counts name =
    line "source" (number " " "source" source ∷ number " notes " "notes" counts.notes
    ∷ number " alone " "alone" counts.alone ∷ number " disputed " "disputed" counts.disputed ∷ word " " "word" name
    ∷ [])

-- The SHA-256 of the value of a packet that was read whole: of a value that is kept, or the one that is.
abbrev pub digest_of : NoteParts → List ℕ
digest_of n = if keeps_value n then sha256 n.held else n.held

-- That SHA-256 in digits; of a head none.
abbrev pub digest_value : NoteParts → Value
digest_value n = if n.whole then Characters (hex_of (digest_of n)) else Absent (codes "-")

-- The line of a disputed note: what it says, the SHA-256 of its value, and the sources that have it.
unfoldable pub disputed_line : NoteParts → List ℕ → PrintedLine
disputed_line n sources =
    line "disputed" (note_fields n ++ field (codes " ") (codes "digest") (digest_value n)
    ∷ numbers " from " "sources" sources ∷ [])

-- The last line: how many sources there are, how many notes they have together, and how many of these are disputed.
unfoldable pub sources_line : ℕ → ℕ → ℕ → PrintedLine
sources_line sources notes disputed =
    line "sources" (number " " "sources" sources ∷ number " notes " "notes" notes
    ∷ number " disputed " "disputed" disputed ∷ [])

-- A line for each source from a first on, by the words that name them.
abbrev pub named_lines : ℕ → List (List NoteParts) → List (List ℕ) → List PrintedLine
named_lines first contents [] = []
named_lines first contents (name ∷ names) =
    source_line first (counts_of first contents) name ∷ named_lines (first + 1) contents names

-- A line for each of some disputed notes.
abbrev pub disputed_lines : List (List NoteParts) → List DisputedParts → List PrintedLine
disputed_lines contents disputed = flat_map (λ d. disputed_line d.note (sources_of d.note contents) ∷ []) disputed

-- The lines of sources with these contents, by the words that name them: of each source, of each disputed note of all,
-- and the last.
abbrev pub sources_lines : List (List NoteParts) → List (List ℕ) → List PrintedLine
sources_lines contents names =
    named_lines 1 contents names
    ++ (disputed_lines contents (disputed_notes (all_notes contents))
    ++ sources_line (length contents) (length (all_notes contents)) (length (disputed_notes (all_notes contents))) ∷ [])

-- 1 if a note is disputed, otherwise 0.
abbrev pub sources_status : List (List NoteParts) → ℕ
sources_status contents = if length (disputed_notes (all_notes contents)) == 0 then 0 else 1
