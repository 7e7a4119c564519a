-- Where segments of an index stand and begin, and which places lie between them for a unit, as functions (this
-- project's profile). Lemmas tie them to the relations of Between.
use Rattle.std.specs.Prelude.{◌≡◌, ℕ, ◌*◌, ◌/◌, ◌<◌, ◌≤◌, ◌⊎◌, Bool, if◌then◌else◌, List, [], ◌∷◌, Some, length, map}
use Rattle.std.specs.Prelude.{max, min, nat_le, nat_lt, slice_get, unsigned_abs}
use Rattle.std.specs.List.{list_all, list_any}
use Rattle.mxf_klv.specs.Rising.{In}
use Rattle.mxf_views.specs.Places.{SegmentAtParts}
use Rattle.mxf_units.specs.Streams.{segments_for}
use Rattle.mxf_units.specs.Units.{UnitsParts}
use Rattle.mxf_partial.specs.declared.between.SegmentStart.{SegmentStart}

-- Where a segment stands, and the unit that it begins with.
abbrev pub start_of : SegmentAtParts → SegmentStart
start_of s = record { offset = s.offset; unit = unsigned_abs s.segment.numbers.start }

-- The same of each segment of the index.
unfoldable pub starts_for : UnitsParts → List SegmentStart
starts_for u = map start_of (segments_for u.known.notes u.index_sid)

-- A segment that begins at the unit or before it stands before the place, and another after it.
abbrev pub is_apart : ℕ → ℕ → SegmentStart → Bool
is_apart unit x s = if nat_le s.unit unit then nat_lt s.offset x else nat_lt x s.offset

-- The place lies between the segments for a unit of one of these numbers.
unfoldable pub is_between_any : List SegmentStart → List ℕ → ℕ → Bool
is_between_any starts numbers x = list_any (λ unit. list_all (is_apart unit x) starts) numbers

-- For each count, the greatest of that many first numbers and of one more.
abbrev pub greatest_so_far : ℕ → List ℕ → List ℕ
greatest_so_far greatest [] = greatest ∷ []
greatest_so_far greatest (x ∷ xs) = greatest ∷ greatest_so_far (max greatest x) xs

-- For each count, the least of that many first numbers and of one more.
abbrev pub least_so_far : ℕ → List ℕ → List ℕ
least_so_far least [] = least ∷ []
least_so_far least (x ∷ xs) = least ∷ least_so_far (min least x) xs

-- It is one of some if they are 16 at most; of more, one of the 16 that lie evenly among them.
abbrev pub IsEvenly16 : {A : Type 0} → List A → A → Type 0
IsEvenly16 xs x =
    ((length xs ≤ 16) × In x xs)
    ⊎ ((16 < length xs) × ((i : ℕ) × (i < 16) × (slice_get xs (i * length xs / 16) ≡ Some x)))
