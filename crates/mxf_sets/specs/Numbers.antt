-- Numbers in the values of items, and what absent items stand for (this project's profile). Numbers have their highest
-- byte first.
use Rattle.std.specs.Prelude.{ℕ, ℤ, pos, unsigned_abs, if◌then◌else◌, List, replicate, unwrap_or, Option, Some, None}
use Rattle.std.specs.Option.{option_map, option_map_or}
use Rattle.std.specs.Int.{w32, w64, cast_signed, is_negative}
use Rattle.byteorder.specs.Endian.{big_number}
use Rattle.mxf_sets.specs.Items.{ItemParts}
use Rattle.mxf_sets.specs.Lookup.{value_of}

-- The signed number of four bytes at the front.
abbrev pub signed_4 : List ℕ → ℤ
signed_4 bytes = cast_signed w32 (big_number 4 bytes)

-- The signed number of eight bytes at the front.
abbrev pub signed_8 : List ℕ → ℤ
signed_8 bytes = cast_signed w64 (big_number 8 bytes)

-- The number that the tag's value is, of the given number of bytes, and 0 if no item has the tag.
abbrev pub number_in : ℕ → ℕ → List ItemParts → ℕ
number_in width tag items = option_map_or (big_number width) (value_of tag items) 0

-- The same, and none if no item has the tag.
abbrev pub some_number_in : ℕ → ℕ → List ItemParts → Option ℕ
some_number_in width tag items = option_map (big_number width) (value_of tag items)

-- The signed number of eight bytes that the tag's value is, and 0 if no item has the tag.
abbrev pub signed_in : ℕ → List ItemParts → ℤ
signed_in tag items = option_map_or signed_8 (value_of tag items) (pos 0)

-- The duration that a signed number says: one that is negative isn't known.
abbrev pub known : ℤ → Option ℕ
known z = if is_negative z then None else Some (unsigned_abs z)

-- The duration in the tag's value, if it is there and known.
abbrev pub duration_in : ℕ → List ItemParts → Option ℕ
duration_in tag items = option_map_or (λ v. known (signed_8 v)) (value_of tag items) None

-- The tag's value, and the given number of zeros if no item has the tag.
abbrev pub bytes_or_zeros : ℕ → ℕ → List ItemParts → List ℕ
bytes_or_zeros width tag items = unwrap_or (value_of tag items) (replicate width 0)
