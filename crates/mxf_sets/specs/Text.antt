-- Texts (ST 377-1, UTF-16 strings): big-endian code units of UTF-16, which end before the first unit that is zero.
use Rattle.std.specs.Prelude.{ℕ, ◌+◌, ◌*◌, ◌==◌, not, List, [], ◌∷◌, take_while}
use Rattle.std.specs.Str.{encode_utf8_all}
use Rattle.std.specs.Char.Utf16.{utf16_lossy_chars}

-- The units, of two bytes each.
abbrev pub units : List ℕ → List ℕ
units (high ∷ low ∷ rest) = (high * 256 + low) ∷ units rest
units _ = []

-- The units before the first that is zero.
abbrev pub text_units : List ℕ → List ℕ
text_units bytes = take_while (λ unit. not (unit == 0)) (units bytes)

-- The text in UTF-8, with U+FFFD for each surrogate that has no partner (this project's profile).
abbrev pub text_of : List ℕ → List ℕ
text_of bytes = encode_utf8_all (utf16_lossy_chars (text_units bytes))
