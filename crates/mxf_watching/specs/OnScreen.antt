-- Texts as a terminal shows them (this project's profile).
use Rattle.std.specs.Prelude.{ℕ, if◌then◌else◌, List, map}
use Rattle.std.specs.Char.{is_control}
use Rattle.std.specs.Str.{chars, encode_utf8_all}

-- The character that stands for a character: 63, a question mark, for a control character, U+0000 to U+001F and U+007F
-- to U+009F.
abbrev pub char_on_screen : ℕ → ℕ
char_on_screen c = if is_control c then 63 else c

-- What stands for a text.
abbrev pub text_on_screen : List ℕ → List ℕ
text_on_screen text = encode_utf8_all (map char_on_screen (chars text))
