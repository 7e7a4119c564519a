-- The labels that are keys of packets (ST 336, universal labels).
use Rattle.std.specs.Prelude.{◌≡◌, ℕ, Bool, List, [], ◌∷◌, length, take}
use Rattle.std.specs.Str.{bytes_eq}

-- What each label begins with.
abbrev pub label_start : List ℕ
label_start = 0x06 ∷ 0x0E ∷ 0x2B ∷ 0x34 ∷ []

-- Sixteen bytes that begin as a label. That no further byte is tested is this project's profile.
abbrev pub IsLabel : List ℕ → Type 0
IsLabel bytes = (length bytes ≡ 16) × (take 4 bytes ≡ label_start)

-- As far as there are bytes, they begin as a label does.
abbrev pub BeginsAsLabel : List ℕ → Type 0
BeginsAsLabel bytes = take 4 bytes ≡ take (length bytes) label_start

-- The same as a test.
abbrev pub begins_as_label : List ℕ → Bool
begins_as_label bytes = bytes_eq (take 4 bytes) (take (length bytes) label_start)
