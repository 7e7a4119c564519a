-- What a printed line is, and its two printings: as text, and as a JSON object (RFC 8259; which lines there are is this
-- project's profile).
use Rattle.std.specs.Prelude.{ℕ, ◌==◌, ◌||◌, Bool, true, false, if◌then◌else◌, List, [], ◌∷◌, ◌++◌, codes, decimal}
use Rattle.std.specs.Prelude.{flat_map, Option, None, Some, option_map}
use Prim.Native.String.{String}
use Rattle.mxf_forms.specs.declared.form.Form.{Form}
use Rattle.mxf_forms.specs.declared.form.Form.TheVariants.{Text, Json}

-- The value of a field: a number, by its digits; characters; one that is absent, for which the text has a word; a flag,
-- whose word stands in the text or doesn't; a word that the text doesn't show; numbers; or a value that JSON alone has.
pub data Value : Type 0 where
  Number : List ℕ → Value
  Characters : List ℕ → Value
  Absent : List ℕ → Value
  Flag : Bool → Value
  Fixed : List ℕ → Value
  Numbers : List ℕ → Value
  JsonOnly : Value → Value

-- A field: what stands before it in the text, its name, and its value. Of a flag the first is its word.
pub record Field : Type 0 where
  pub before : List ℕ
  pub name : List ℕ
  pub value : Value

-- A line: the name of its form, the words before its fields, these, and the words after them.
pub record PrintedLine : Type 0 where
  pub name : List ℕ
  pub first : List ℕ
  pub fields : List Field
  pub last : List ℕ

-- The digits of numbers, with a separator between two of them, and one after them if others follow.
abbrev pub separated_behind : List ℕ → List ℕ → List ℕ
separated_behind separator [] = []
separated_behind separator (n ∷ numbers) = separator ++ (decimal n ++ separated_behind separator numbers)

abbrev pub separated : List ℕ → List ℕ → List ℕ
separated separator [] = []
separated separator (n ∷ numbers) = decimal n ++ separated_behind separator numbers

-- The text of a field.
abbrev pub field_text : List ℕ → Value → List ℕ
field_text before (Number digits) = before ++ digits
field_text before (Characters text) = before ++ text
field_text before (Absent word) = before ++ word
field_text before (Flag true) = before
field_text before (Flag false) = []
field_text before (Fixed word) = before
field_text before (Numbers numbers) = before ++ separated (codes " ") numbers
field_text before (JsonOnly value) = []

-- In a string a quotation mark, 34, and a backslash, 92, have a backslash before them, and nothing else has.
abbrev pub escaped_character : ℕ → List ℕ
escaped_character c = if c == 34 || c == 92 then 92 ∷ c ∷ [] else c ∷ []

abbrev pub escaped : List ℕ → List ℕ
escaped text = flat_map escaped_character text

-- The string of a text.
abbrev pub quoted : List ℕ → List ℕ
quoted text = 34 ∷ (escaped text ++ 34 ∷ [])

-- The JSON of a value.
abbrev pub value_json : Value → List ℕ
value_json (Number digits) = digits
value_json (Characters text) = quoted text
value_json (Absent word) = codes "null"
value_json (Flag true) = codes "true"
value_json (Flag false) = codes "false"
value_json (Fixed word) = quoted word
value_json (Numbers numbers) = codes "[" ++ (separated (codes ",") numbers ++ codes "]")
value_json (JsonOnly value) = value_json value

-- What is printed of a line with this name before its fields, of a field, and after the fields.
unfoldable pub front_in : Form → List ℕ → List ℕ → List ℕ
front_in Text name first = first
front_in Json name first = codes "{\"line\":\"" ++ (name ++ codes "\"")

unfoldable pub field_in : Form → Field → List ℕ
field_in Text f = field_text f.before f.value
field_in Json f = codes ",\"" ++ (f.name ++ (codes "\":" ++ value_json f.value))

unfoldable pub end_in : Form → List ℕ → List ℕ
end_in Text last = last ++ codes "\n"
end_in Json last = codes "}\n"

-- A line as it is printed.
abbrev pub line_in : Form → PrintedLine → List ℕ
line_in form l = front_in form l.name l.first ++ (flat_map (field_in form) l.fields ++ end_in form l.last)

-- Lines as they are printed, one after another.
abbrev pub lines_in : Form → List PrintedLine → List ℕ
lines_in form lines = flat_map (line_in form) lines

-- Fields by what stands before them, their names and their values: a number by its digits, and by itself, characters, a
-- flag, numbers, and a number that may be absent, with the word for that.
abbrev pub field : List ℕ → List ℕ → Value → Field
field before name value = record { before = before; name = name; value = value }

abbrev pub digits : String → String → List ℕ → Field
digits before name text = field (codes before) (codes name) (Number text)

abbrev pub number : String → String → ℕ → Field
number before name n = digits before name (decimal n)

abbrev pub word : String → String → List ℕ → Field
word before name text = field (codes before) (codes name) (Characters text)

abbrev pub flag : String → String → Bool → Field
flag before name stands = field (codes before) (codes name) (Flag stands)

abbrev pub numbers : String → String → List ℕ → Field
numbers before name all = field (codes before) (codes name) (Numbers all)

abbrev pub digits_or : {X : Type 0} → (X → List ℕ) → List ℕ → Option X → Value
digits_or text none None = Absent none
digits_or text none (Some n) = Number (text n)

abbrev pub number_or : List ℕ → Option ℕ → Value
number_or none n = digits_or decimal none n

abbrev pub known : String → String → String → Option ℕ → Field
known before name none n = field (codes before) (codes name) (number_or (codes none) n)

-- Fields that JSON alone has, by their names: of any value, a number, and a number that may be absent.
abbrev pub member : List ℕ → Value → Field
member name value = field [] name (JsonOnly value)

abbrev pub number_member : String → ℕ → Field
number_member name n = member (codes name) (Number (decimal n))

abbrev pub known_member : String → Option ℕ → Field
known_member name n = member (codes name) (number_or [] n)

-- A line by its name, the words before its fields, these, and the words after them; and one whose name is all its
-- words.
abbrev pub line_of : List ℕ → List ℕ → List Field → List ℕ → PrintedLine
line_of name first fields last = record { name = name; first = first; fields = fields; last = last }

abbrev pub line : String → List Field → PrintedLine
line name fields = line_of (codes name) (codes name) fields []

-- What a reader of JSON takes of the characters after a quotation mark, up to the next that no backslash stands before,
-- and what is after that. `literal` says that a backslash stands before the first of them.
abbrev pub string_end : Bool → List ℕ → Option (List ℕ × List ℕ)
string_end literal [] = None
string_end true (c ∷ rest) = option_map (λ s. (c ∷ s.0, s.1)) (string_end false rest)
string_end false (c ∷ rest) =
    if c == 34 then Some ([], rest) else
    (if c == 92 then string_end true rest else option_map (λ s. (c ∷ s.0, s.1)) (string_end false rest))

-- What a reader of JSON takes for the string that begins here, and what is after it.
abbrev pub string_at : List ℕ → Option (List ℕ × List ℕ)
string_at [] = None
string_at (c ∷ rest) = if c == 34 then string_end false rest else None
