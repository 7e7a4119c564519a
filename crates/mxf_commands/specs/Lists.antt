-- Lists of sources (this project's profile).
use Rattle.std.specs.Prelude.{ℕ, ◌==◌, ◌+◌, nat_lt, List, [], count_by, filter, length, map, take, Option, None, Some}
use denote.Ref.{Bor}
use Rattle.std.specs.List.{slice_split}
use Rattle.std.specs.Str.Lossy.{utf8_valid_len}

-- The lines of a text, with none but the last ended by a line feed, 10.
abbrev pub lines_of : List ℕ → List (List ℕ)
lines_of text = slice_split (λ b. b == 10) text

-- The lines that name a source: those that aren't empty.
abbrev pub naming_lines : List ℕ → List (List ℕ)
naming_lines text = filter (λ line. nat_lt 0 (length line)) (lines_of text)

-- The number of the line, counted from 1, with the first bytes that aren't UTF-8: one more than the line feeds before these
-- bytes.
abbrev pub bad_line : List ℕ → ℕ
bad_line bytes = count_by (λ b. b == 10) (take (utf8_valid_len bytes) bytes) + 1

-- The words that are named, none if none are.
abbrev pub named : Option (Bor (List (Bor (List ℕ)))) → List (List ℕ)
named None = []
named (Some words) = map (λ word. word.now) words.now
