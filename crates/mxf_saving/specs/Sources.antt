-- The texts that name sources on the command line (this project's profile).
use Rattle.std.specs.Prelude.{◌≡◌, ℕ, ◌+◌, ◌-◌, ◌*◌, ◌<◌, ◌≤◌, ◌⊎◌, true, List, [], ◌∷◌, ◌++◌, length, slice_index}
use Rattle.std.specs.Prelude.{codes, Bool, false, Option, None, Some, Result, Ok, Err}
use Rattle.std.specs.Str.{all_ascii_digits}
use Rattle.mxf_klv.specs.Note.{greatest_end}
use Rattle.mxf_saving.specs.declared.source.Source.{Source}
use Rattle.mxf_saving.specs.declared.source.Source.TheVariants as sources
use Rattle.mxf_saving.specs.declared.source.SourceWordFault.{SourceWordFault}
use Rattle.mxf_saving.specs.declared.source.SourceWordFault.TheVariants.{NoScheme, BadOffset, BadLength, NoPath}

-- A source: a piece of a file from an offset on, a range, whose first byte may lie inside a packet, a slice of a file,
-- whose bytes lie at the same offset in the file and in the recording, or a saved catalogue.
pub data SourceParts : Type 0 where
  Piece : ℕ → List ℕ → SourceParts
  Range : ℕ → List ℕ → SourceParts
  Slice : ℕ → ℕ → List ℕ → SourceParts
  Saved : List ℕ → SourceParts

abbrev pub source_parts : Source → SourceParts
source_parts (sources.Piece offset path) = Piece offset path.now
source_parts (sources.Range offset path) = Range offset path.now
source_parts (sources.Slice offset size path) = Slice offset size path.now
source_parts (sources.Saved path) = Saved path.now

-- The path of the file of a source.
abbrev pub path_of : SourceParts → List ℕ
path_of (Piece offset path) = path
path_of (Range offset path) = path
path_of (Slice offset size path) = path
path_of (Saved path) = path

-- How many bytes of its file a slice is.
abbrev pub size_of : SourceParts → Option ℕ
size_of (Piece offset path) = None
size_of (Range offset path) = None
size_of (Slice offset size path) = Some size
size_of (Saved path) = None

-- It is a range.
abbrev pub is_range : SourceParts → Bool
is_range (Piece offset path) = false
is_range (Range offset path) = true
is_range (Slice offset size path) = false
is_range (Saved path) = false

-- Of a piece, a range or a slice the offset of its first byte, and the path of its file.
abbrev pub place_of : SourceParts → Option (ℕ × List ℕ)
place_of (Piece offset path) = Some (offset, path)
place_of (Range offset path) = Some (offset, path)
place_of (Slice offset size path) = Some (offset, path)
place_of (Saved path) = None

-- The same piece or range from another offset on; no slice, since its bytes lie where they lie in its file.
abbrev pub moved_to : ℕ → SourceParts → Option SourceParts
moved_to at (Piece offset path) = Some (Piece at path)
moved_to at (Range offset path) = Some (Range at path)
moved_to at (Slice offset size path) = None
moved_to at (Saved path) = None

abbrev pub at_scheme : List ℕ
at_scheme = codes "at:"

abbrev pub range_scheme : List ℕ
range_scheme = codes "range:"

abbrev pub slice_scheme : List ℕ
slice_scheme = codes "slice:"

abbrev pub cat_scheme : List ℕ
cat_scheme = codes "cat:"

-- The value of a decimal digit.
abbrev pub digit_of : ℕ → ℕ
digit_of c = c - slice_index (codes "0") 0

-- The number that decimal digits write, after the number so far.
abbrev pub decimal_from : ℕ → List ℕ → ℕ
decimal_from n [] = n
decimal_from n (c ∷ cs) = decimal_from (n * 10 + digit_of c) cs

-- The text is one or more decimal digits that write the offset, which is at most the greatest end of a packet.
pub record IsOffset (text : List ℕ) (offset : ℕ) : Type 0 where
  pub some : 0 < length text
  pub digits : all_ascii_digits text ≡ true
  pub value : offset ≡ decimal_from 0 text
  pub within : offset ≤ greatest_end

-- The text is one or more decimal digits that write the length of what begins at the offset: at least 1, and its end is
-- at most the greatest end of a packet.
pub record IsLength (text : List ℕ) (offset size : ℕ) : Type 0 where
  pub some : 0 < length text
  pub digits : all_ascii_digits text ≡ true
  pub value : size ≡ decimal_from 0 text
  pub least : 0 < size
  pub within : offset + size ≤ greatest_end

-- What follows `at:`, `range:` or `slice:` is an offset, a colon and more: a path, or a length and a path.
pub record SplitsSource (rest digits more : List ℕ) (offset : ℕ) : Type 0 where
  pub whole : rest ≡ digits ++ (codes ":" ++ more)
  pub place : IsOffset digits offset

-- What follows the offset of a slice is a length, a colon and a path.
pub record SplitsLength (rest : List ℕ) (offset : ℕ) (digits path : List ℕ) (size : ℕ) : Type 0 where
  pub whole : rest ≡ digits ++ (codes ":" ++ path)
  pub extent : IsLength digits offset size

-- What such a text names: an offset and a path. Else it has no offset with a colon after it, or the path is empty.
abbrev pub ReadsPlace : List ℕ → Result (ℕ × List ℕ) SourceWordFault → Type 0
ReadsPlace text (Ok (offset, path)) = (0 < length path) × ((digits : List ℕ) × SplitsSource text digits path offset)
ReadsPlace text (Err NoScheme) = ⊥
ReadsPlace text (Err BadOffset) = (digits path : List ℕ) (offset : ℕ) → SplitsSource text digits path offset → ⊥
ReadsPlace text (Err BadLength) = ⊥
ReadsPlace text (Err NoPath) = (digits : List ℕ) × (offset : ℕ) × SplitsSource text digits [] offset

-- What a text names after `slice:`: an offset, a length and a path. Else it has no offset with a colon after it; or no
-- length with a colon after it follows; or the path is empty.
abbrev pub ReadsSlice : List ℕ → Result (ℕ × ℕ × List ℕ) SourceWordFault → Type 0
ReadsSlice text (Ok (offset, size, path)) =
    (0 < length path) × ((digits rest : List ℕ) × SplitsSource text digits rest offset
    × ((sizes : List ℕ) × SplitsLength rest offset sizes path size))
ReadsSlice text (Err NoScheme) = ⊥
ReadsSlice text (Err BadOffset) = (digits rest : List ℕ) (offset : ℕ) → SplitsSource text digits rest offset → ⊥
ReadsSlice text (Err BadLength) =
    (digits rest : List ℕ) × (offset : ℕ) × SplitsSource text digits rest offset
    × ((sizes path : List ℕ) (size : ℕ) → SplitsLength rest offset sizes path size → ⊥)
ReadsSlice text (Err NoPath) =
    (digits rest : List ℕ) × (offset : ℕ) × SplitsSource text digits rest offset
    × ((sizes : List ℕ) × (size : ℕ) × SplitsLength rest offset sizes [] size)

-- A text begins with the scheme of a piece or of a range, and the rest follows.
abbrev pub IsPlaced : List ℕ → List ℕ → Type 0
IsPlaced text rest = (text ≡ at_scheme ++ rest) ⊎ (text ≡ range_scheme ++ rest)

-- A text begins with the scheme of a slice, and the rest follows.
abbrev pub IsSliced : List ℕ → List ℕ → Type 0
IsSliced text rest = text ≡ slice_scheme ++ rest

-- What a source text names: `at:OFFSET:PATH` a piece, `range:OFFSET:PATH` a range, `slice:OFFSET:LENGTH:PATH` a slice,
-- `cat:PATH` a catalogue. Else it begins with no scheme; or after `at:`, `range:` or `slice:` stands no offset with a
-- colon after it; or after the offset of a slice no length with a colon after it; or the path is empty.
abbrev pub ReadsSource : List ℕ → Result SourceParts SourceWordFault → Type 0
ReadsSource text (Ok (Piece offset path)) =
    (rest : List ℕ) × (text ≡ at_scheme ++ rest) × ReadsPlace rest (Ok (offset, path))
ReadsSource text (Ok (Range offset path)) =
    (rest : List ℕ) × (text ≡ range_scheme ++ rest) × ReadsPlace rest (Ok (offset, path))
ReadsSource text (Ok (Slice offset size path)) =
    (rest : List ℕ) × IsSliced text rest × ReadsSlice rest (Ok (offset, size, path))
ReadsSource text (Ok (Saved path)) = (text ≡ cat_scheme ++ path) × (0 < length path)
ReadsSource text (Err NoScheme) =
    (rest : List ℕ) → ¬ IsPlaced text rest × (¬ IsSliced text rest × (text ≡ cat_scheme ++ rest → ⊥))
ReadsSource text (Err BadOffset) =
    ((rest : List ℕ) × IsPlaced text rest × ReadsPlace rest (Err BadOffset))
    ⊎ ((rest : List ℕ) × IsSliced text rest × ReadsSlice rest (Err BadOffset))
ReadsSource text (Err BadLength) = (rest : List ℕ) × IsSliced text rest × ReadsSlice rest (Err BadLength)
ReadsSource text (Err NoPath) =
    (text ≡ cat_scheme) ⊎ (((rest : List ℕ) × IsPlaced text rest × ReadsPlace rest (Err NoPath))
    ⊎ ((rest : List ℕ) × IsSliced text rest × ReadsSlice rest (Err NoPath)))
