-- The digits that the crate `hex` writes are those of `hex_of`.
use Rattle.std.proofs.Common.{◌≡◌, ℕ, ◌+◌, ◌<◌, ◌/◌, ◌%◌, get_or, List, [], ◌∷◌, ◌++◌, length, take, add-one, refl, ap}
use Rattle.std.proofs.Common.{arith, sym}
use Rattle.std.proofs.Math.Seq.{take-suc}
use Rattle.std.proofs.lemmas.Str.{IsUtf8-from_ascii}
use Rattle.std.specs.Str.{IsAscii, IsUtf8}
use Rattle.hex.proofs.HexLemmas.{IsAscii-encode_with}
use Rattle.hex.specs.Hex.{encode_with, encode_lower, lower_digits}
use Rattle.mxf_forms.specs.Hexadecimal.{hex_digit, hex_of}

pub encode_lower-is : (bytes : List ℕ) → encode_lower bytes ≡ hex_of bytes
unfolding encode_with
encode_lower-is [] = refl
encode_lower-is (b ∷ bytes) = ap (λ (t : List ℕ). hex_digit (b / 16) ∷ hex_digit (b % 16) ∷ t) (encode_lower-is bytes)

-- they are text
digits_are_ascii : IsAscii lower_digits
digits_are_ascii i = grind arith

pub digits_are_text : (bytes : List ℕ) → IsUtf8 (encode_lower bytes)
digits_are_text bytes = IsUtf8-from_ascii _ (IsAscii-encode_with lower_digits bytes digits_are_ascii)

-- the digits of bytes one after another
pub hex_of-append : (a b : List ℕ) → hex_of (a ++ b) ≡ hex_of a ++ hex_of b
hex_of-append [] b = refl
hex_of-append (x ∷ a) b = ap (λ (t : List ℕ). hex_digit (x / 16) ∷ hex_digit (x % 16) ∷ t) (hex_of-append a b)

-- the digits of one byte more
pub one_more_byte : (bytes : List ℕ) (i d : ℕ) → i < length bytes
    → hex_of (take i bytes) ++ hex_of (get_or bytes i d ∷ []) ≡ hex_of (take (i + 1) bytes)
one_more_byte bytes i d h =
    let more : take (i + 1) bytes ≡ take i bytes ++ get_or bytes i d ∷ [] = rw add-one (take-suc bytes i d h) in
    rw more (sym (hex_of-append (take i bytes) (get_or bytes i d ∷ [])))
