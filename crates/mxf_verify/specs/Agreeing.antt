-- Bytes that come one part after another, beside known ones (this project's profile).
use Rattle.std.specs.Prelude.{◌-◌, ◌==◌, ◌&&◌, ◌||◌, not, ℕ, Bool, true, List, [], ◌∷◌, take, drop}
use Rattle.mxf_klv.specs.Parts.{NoteParts}
use Rattle.mxf_klv.specs.Note.{keeps_value}
use Rattle.mxf_verify.specs.Verifying.{front_bytes, front_size, held_size}

-- The bytes are the known ones, as far as there are either.
abbrev pub agrees : List ℕ → List ℕ → Bool
agrees [] bytes = true
agrees (x ∷ known) [] = true
agrees (x ∷ known) (y ∷ bytes) = (x == y) && agrees known bytes

-- The first bytes of those that the note holds are what it says of them byte by byte: of its key and its length, and of
-- a value that it keeps.
unfoldable pub agrees_with : NoteParts → List ℕ → Bool
agrees_with n bytes =
    agrees (front_bytes n) bytes && (not (keeps_value n) || agrees n.held (drop (front_size n) bytes))

-- The same of bytes that come after the given number of them.
unfoldable pub agrees_on : NoteParts → ℕ → List ℕ → Bool
agrees_on n seen bytes =
    agrees (drop seen (front_bytes n)) bytes
    && (not (keeps_value n) || agrees (drop (seen - front_size n) n.held) (drop (front_size n - seen) bytes))

-- Those of further bytes, the first of which lies at an offset, that the note holds.
unfoldable pub part_of : NoteParts → ℕ → List ℕ → List ℕ
part_of n at bytes = take (held_size n - (at - n.offset)) (drop (n.offset - at) bytes)

-- Those of them that are of its value.
unfoldable pub value_part : NoteParts → ℕ → List ℕ → List ℕ
value_part n at bytes = drop (front_size n - (at - n.offset)) (part_of n at bytes)
