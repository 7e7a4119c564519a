-- The lines of fragments that were looked up in recordings (this project's profile).
use Rattle.std.specs.Prelude.{ℕ, ◌+◌, ◌==◌, ◌&&◌, Bool, false, if◌then◌else◌, List, [], ◌∷◌, ◌++◌, count_by}
use Rattle.std.specs.Prelude.{flat_map, length, nat_lt, slice_index_or}
use Rattle.std.specs.Fmt.{signed_decimal}
use Rattle.mxf_find.specs.declared.ranking.Ranked.{Ranked}
use Rattle.mxf_find.specs.declared.found.Match.{Match}
use Rattle.mxf_forms.specs.Forms.{Field, PrintedLine, digits, line, number, word}

-- A fragment that was looked up: how many notes it has, and the recordings in which it lies best.
pub record SearchedParts : Type 0 where
  pub notes : ℕ
  pub best : List Ranked

-- The word of the recording with a number, from 1 on; no characters if there is none.
abbrev pub recording_word : List (List ℕ) → ℕ → List ℕ
recording_word names recording = slice_index_or ([] ∷ names) recording []

-- Where a fragment of so many notes begins in a recording, how many agree, and how many of these by key, width and
-- length alone.
abbrev pub match_fields : ℕ → Match → List Field
match_fields notes found =
    digits " " "offset" (signed_decimal found.offset) ∷ number " " "packets" found.agree
    ∷ number " of " "all-packets" notes ∷ number " heads " "heads" found.heads ∷ []

-- The line of a fragment in a recording: the numbers of both, the offset at which it begins there, how many of how many
-- notes agree, how many of these by key, width and length alone, and the recording's word.
unfoldable pub found_line : ℕ → ℕ → List ℕ → Ranked → PrintedLine
found_line fragment notes name r =
    line "found" (number " " "fragment" fragment ∷ number " " "recording" r.recording
    ∷ (match_fields notes r.found ++ word " " "word" name ∷ []))

-- The line of a fragment that no recording knows: its number, and how many notes it has.
unfoldable pub unknown_line : ℕ → ℕ → PrintedLine
unknown_line fragment notes =
    line "unknown" (number " " "fragment" fragment ∷ number " " "packets" notes ∷ [])

-- The last line: how many fragments there are, and how many lie in one recording with all their notes.
unfoldable pub fragments_line : ℕ → ℕ → PrintedLine
fragments_line fragments found =
    line "fragments" (number " " "fragments" fragments ∷ number " found " "found" found ∷ [])

-- The lines of a fragment: one for each recording, or that it is unknown.
abbrev pub found_lines : List (List ℕ) → ℕ → ℕ → List Ranked → List PrintedLine
found_lines names fragment notes best =
    flat_map (λ r. found_line fragment notes (recording_word names r.recording) r ∷ []) best

abbrev pub search_lines : List (List ℕ) → ℕ → SearchedParts → List PrintedLine
search_lines names fragment s =
    (if length s.best == 0 then unknown_line fragment s.notes ∷ [] else [])
    ++ found_lines names fragment s.notes s.best

-- The lines of fragments that are numbered from a first on.
abbrev pub searches_lines : List (List ℕ) → ℕ → List SearchedParts → List PrintedLine
searches_lines names first [] = []
searches_lines names first (s ∷ all) = search_lines names first s ++ searches_lines names (first + 1) all

-- All notes of a fragment agree with its first recording, and fewer with the second, if there is one.
abbrev pub is_best : ℕ → List Ranked → Bool
is_best notes [] = false
is_best notes (r ∷ []) = r.found.agree == notes
is_best notes (r ∷ second ∷ others) = (r.found.agree == notes) && nat_lt second.found.agree notes

abbrev pub is_found : SearchedParts → Bool
is_found s = is_best s.notes s.best

-- The lines of fragments: of each, and the last.
abbrev pub find_lines : List (List ℕ) → List SearchedParts → List PrintedLine
find_lines names all =
    searches_lines names 1 all ++ fragments_line (length all) (count_by is_found all) ∷ []

-- 0 if each fragment is found, otherwise 1.
abbrev pub find_status : List SearchedParts → ℕ
find_status all = if count_by is_found all == length all then 0 else 1
