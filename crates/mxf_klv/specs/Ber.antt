-- The bytes of lengths (ST 336, length field): one byte below 128, or a byte 128 + n and n bytes of a number,
-- the highest first. That n is 1 to 8 is this project's profile.
use Rattle.std.specs.Prelude.{◌≡◌, ℕ, ◌+◌, ◌-◌, ◌<◌, ◌≤◌, ◌⊎◌, nat_eq, if◌then◌else◌, List, [], ◌∷◌, length, slice_get}
use Rattle.std.specs.Prelude.{take, Some, IsSomeAnd, Result, Ok, Err}
use Rattle.byteorder.specs.Endian.{big_number, big_bytes}
use Rattle.mxf_klv.specs.Parts.{LengthParts}
use Rattle.mxf_klv.specs.declared.ber.BerFault.{BerFault}
use Rattle.mxf_klv.specs.declared.ber.BerFault.TheVariants as faults

-- The bytes stand for the length.
abbrev pub IsSpelledLength : List ℕ → ℕ → ℕ → Type 0
IsSpelledLength [] width value = ⊥
IsSpelledLength (first ∷ rest) width value =
    ((width ≡ 1) × (first ≤ 127) × (value ≡ first) × (rest ≡ []))
    ⊎ ((2 ≤ width) × (width ≤ 9) × (first ≡ 127 + width) × (length rest ≡ width - 1)
    × (value ≡ big_number (width - 1) rest))

-- There is no byte, or fewer follow the first than it asks for.
abbrev pub IsCutLength : List ℕ → Type 0
IsCutLength [] = Unit {0}
IsCutLength (first ∷ rest) = (129 ≤ first) × (first ≤ 136) × (length rest < first - 128)

-- What bytes begin with: a length; a length that is cut; one of no stated width; or one of more than eight bytes.
abbrev pub ReadsLength : List ℕ → Result LengthParts BerFault → Type 0
ReadsLength bytes (Ok l) = IsSpelledLength (take l.width bytes) l.width l.value
ReadsLength bytes (Err faults.Short) = IsCutLength bytes
ReadsLength bytes (Err faults.Indefinite) = slice_get bytes 0 ≡ Some 128
ReadsLength bytes (Err faults.TooWide) = IsSomeAnd (slice_get bytes 0) (λ first. 136 < first)

-- The bytes of a length that has a spelling.
abbrev pub length_bytes : ℕ → ℕ → List ℕ
length_bytes width value =
    if nat_eq width 1 then value ∷ [] else (127 + width) ∷ big_bytes (width - 1) value
