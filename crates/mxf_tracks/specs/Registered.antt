-- Labels and keys byte by byte, as they are registered (RP 224 and ST 400, data definitions; ST 377-1, keys of header
-- metadata sets). They are written out here, and rest on no other definition.
use Rattle.std.specs.Prelude.{ℕ, List, [], ◌∷◌}

-- The label of a data definition: bytes 12 and 13 say of which family it is, and which of these.
abbrev pub data_definition : ℕ → ℕ → List ℕ
data_definition family which =
    0x06 ∷ 0x0E ∷ 0x2B ∷ 0x34 ∷ 0x04 ∷ 0x01 ∷ 0x01 ∷ 0x01 ∷ 0x01 ∷ 0x03 ∷ 0x02 ∷ family ∷ which ∷ 0x00 ∷ 0x00 ∷ 0x00 ∷ []

-- The key of a header metadata set in local set coding with two-byte tags and lengths: byte 15 says which set it is.
abbrev pub set_key : ℕ → List ℕ
set_key which =
    0x06 ∷ 0x0E ∷ 0x2B ∷ 0x34 ∷ 0x02 ∷ 0x53 ∷ 0x01 ∷ 0x01 ∷ 0x0D ∷ 0x01 ∷ 0x01 ∷ 0x01 ∷ 0x01 ∷ 0x01 ∷ which ∷ 0x00 ∷ []
