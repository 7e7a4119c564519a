-- The names of operational patterns (ST 377-1, operational pattern labels). Bytes of a label are counted from 1, and
-- byte 8, the version, decides nothing.
use Rattle.std.specs.Prelude.{ℕ, ◌-◌, Bool, ◌==◌, ◌&&◌, if◌then◌else◌, List, [], ◌∷◌, ◌++◌, take, drop, slice_index}
use Rattle.std.specs.Prelude.{Option, Some, None, codes}
use Rattle.std.specs.Str.{bytes_eq}
use Rattle.std.specs.Int.{is_in_range}

-- The name for an item complexity of 1 to 3 and a package complexity of 1 to 3: `OP`, the first as a digit, and `a`,
-- `b` or `c` for the second.
abbrev pub name_of : ℕ → ℕ → Option (List ℕ)
name_of items packages =
    let digit = slice_index (codes "123") (items - 1) in
    let letter = slice_index (codes "abc") (packages - 1) in
    if is_in_range 1 3 items && is_in_range 1 3 packages then Some (codes "OP" ++ (digit ∷ letter ∷ [])) else None

-- Bytes 1 to 7 of the label of an operational pattern.
abbrev pub pattern_start : List ℕ
pattern_start = 0x06 ∷ 0x0E ∷ 0x2B ∷ 0x34 ∷ 0x04 ∷ 0x01 ∷ 0x01 ∷ []

-- Bytes 9 to 12 of the label of an operational pattern.
abbrev pub pattern_item : List ℕ
pattern_item = 0x0D ∷ 0x01 ∷ 0x02 ∷ 0x01 ∷ []

-- The label is that of an operational pattern: by bytes 1 to 7, bytes 9 to 12, and byte 16, which is 0.
abbrev pub is_pattern : List ℕ → Bool
is_pattern label =
    bytes_eq (take 7 label) pattern_start && bytes_eq (take 4 (drop 8 label)) pattern_item
    && slice_index label 15 == 0

-- The name of a label: by bytes 13 and 14 of that of an operational pattern.
abbrev pub pattern_name : List ℕ → Option (List ℕ)
pattern_name label = if is_pattern label then name_of (slice_index label 12) (slice_index label 13) else None
