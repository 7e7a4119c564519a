-- How texts are printed (this project's profile; the texts are those of ST 377-1, UTF-16 strings).
use Rattle.std.specs.Prelude.{ℕ, ◌%◌, ◌==◌, if◌then◌else◌, List, codes, length, map, chars, encode_utf8_all}
use Rattle.std.specs.Char.{is_ascii_control}
use Rattle.mxf_sets.specs.Text.{text_of}

-- The character that stands for a character: 63, a question mark, for those below U+0020 and for U+007F.
abbrev pub shown_char : ℕ → ℕ
shown_char c = if is_ascii_control c then 63 else c

-- What stands for a text.
abbrev pub shown_text : List ℕ → List ℕ
shown_text text = encode_utf8_all (map shown_char (chars text))

-- What stands for the value of a text item.
abbrev pub shown_value : List ℕ → List ℕ
shown_value value = if length value % 2 == 1 then codes "(odd length)" else shown_text (text_of value)
