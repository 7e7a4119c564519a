-- Where sources differ, as it is noted (this project's profile).
use Rattle.std.specs.Prelude.{◌≡◌, ◌≢◌, ◌==◌, ◌&&◌, ◌<◌, ◌≤◌, ℕ, ◌+◌, ◌-◌, List, [], ◌∷◌, Bool, if◌then◌else◌, max}
use Rattle.std.specs.Prelude.{nat_le, nat_lt, slice_get, Some}
use Rattle.std.specs.List.{AllByRecursion}
use Rattle.std.specs.List.Sorted.{IsNonDecreasingBy, IsPermutation}
use Rattle.mxf_klv.specs.Note.{greatest_end}
use Rattle.mxf_klv.specs.Rising.{In}
use Rattle.mxf_catalogue.specs.declared.run.Run.{Run}
use Rattle.mxf_catalogue.specs.Runs.{run}
use Rattle.mxf_hand.specs.Given.{Differ, Gives, IsDiffering, SourceParts}
use Rattle.mxf_hand.specs.Places.{AreApart, IsPlaceOf, LiesInPlace}
use Rattle.mxf_hand.specs.declared.given.Extent.{Extent}
use Rattle.mxf_hand.specs.declared.given.Place.{Place}
use Rattle.mxf_hand.specs.declared.given.differing.Difference.{Difference}

abbrev pub difference : ℕ → ℕ → Difference
difference first last = record { first = first; last = last }

-- The difference has an offset, and its offsets lie below the greatest end.
pub record IsDifference (d : Difference) : Type 0 where
  pub order : d.first ≤ d.last
  pub within : d.last < greatest_end

-- The offset lies in the difference.
pub record LiesInDifference (d : Difference) (x : ℕ) : Type 0 where
  pub from : d.first ≤ x
  pub to : x ≤ d.last

-- The offset lies in one of the differences.
abbrev pub LiesInOne : List Difference → ℕ → Type 0
LiesInOne ds x = (d : Difference) × In d ds × LiesInDifference d x

-- Sources differ at the first and at the last of the offsets, and around all of them.
pub record IsDifferenceOf (sources : List SourceParts) (d : Difference) : Type 0 where
  pub first_differs : Differ sources d.first
  pub last_differs : Differ sources d.last
  pub order : d.first ≤ d.last
  pub around : (x : ℕ) → LiesInDifference d x → IsDiffering sources x

-- The next begins in the difference, or less than 512 above its last offset.
abbrev pub is_near : Difference → Difference → Bool
is_near d next = nat_le d.first next.first && nat_lt (next.first - d.last) 512

-- The differences with one more, which makes one with the last if it is near.
abbrev pub with_near : List Difference → Difference → List Difference
with_near [] next = next ∷ []
with_near (d ∷ []) next = if is_near d next then difference d.first (max d.last next.last) ∷ [] else d ∷ next ∷ []
with_near (d ∷ e ∷ ds) next = d ∷ with_near (e ∷ ds) next

-- The differences with others, one after another.
abbrev pub with_all : List Difference → List Difference → List Difference
with_all ds [] = ds
with_all ds (next ∷ others) = with_all (with_near ds next) others

-- The differences with each offset at which bytes differ from others, from an offset on.
abbrev pub with_bytes : List Difference → ℕ → List ℕ → List ℕ → List Difference
with_bytes ds at [] others = ds
with_bytes ds at (a ∷ bytes) [] = ds
with_bytes ds at (a ∷ bytes) (b ∷ others) =
    with_bytes (if a == b then ds else with_near ds (difference at at)) (at + 1) bytes others

-- The differences by their first offsets, one after another.
pub record AreJoined (noted all : List Difference) : Type 0 where
  pub sorted : List Difference
  pub members : IsPermutation noted sorted
  pub rise : IsNonDecreasingBy (λ d. d.first) sorted
  pub is : all ≡ with_all [] sorted

-- The offsets of the difference.
abbrev pub run_of_difference : Difference → Run
run_of_difference d = run d.first (d.last + 1)

-- The source with this number gives the byte at the offset.
abbrev pub GivesAt : List SourceParts → ℕ → ℕ → ℕ → Type 0
GivesAt sources number x byte = (s : SourceParts) × (slice_get sources number ≡ Some s) × Gives s x byte

-- It gives the bytes from an offset on.
abbrev pub GivesAll : List SourceParts → ℕ → ℕ → List ℕ → Type 0
GivesAll sources number x [] = Unit {0}
GivesAll sources number x (byte ∷ bytes) = GivesAt sources number x byte × GivesAll sources number (x + 1) bytes

-- The two sources with these numbers give different bytes at the offset.
pub record DifferAt (sources : List SourceParts) (number other_number x : ℕ) : Type 0 where
  pub one : ℕ
  pub other : ℕ
  pub gives_one : GivesAt sources number x one
  pub gives_other : GivesAt sources other_number x other
  pub differs : one ≢ other

-- An overlap of places: its source has its offsets, and so has a place.
pub record IsOverlap (extents : List Extent) (places : List Place) (overlap : Place) : Type 0 where
  pub within : (p : Place) → In p places → IsPlaceOf extents p
  pub apart : AreApart 0 places
  pub is : IsPlaceOf extents overlap
  pub met : (x : ℕ) → LiesInPlace overlap x → (p : Place) × In p places × LiesInPlace p x

-- What is noted of offsets of two sources beside what was noted: where these differ.
pub record IsPartCompared (sources : List SourceParts) (number other_number from to : ℕ) (old new : List Difference)
    : Type 0 where
  pub sound : AllByRecursion (IsDifferenceOf sources) old → AllByRecursion (IsDifferenceOf sources) new
  pub kept : (x : ℕ) → LiesInOne old x → LiesInOne new x
  pub found : (x : ℕ) → from ≤ x → x < to → DifferAt sources number other_number x → LiesInOne new x

-- What is noted of an overlap beside what was noted: where its source differs from that of the place.
pub record IsCompared (sources : List SourceParts) (places : List Place) (overlap : Place) (old new : List Difference)
    : Type 0 where
  pub sound : AllByRecursion (IsDifferenceOf sources) old → AllByRecursion (IsDifferenceOf sources) new
  pub kept : (x : ℕ) → LiesInOne old x → LiesInOne new x
  pub found : (x : ℕ) (p : Place) → LiesInPlace overlap x → In p places → LiesInPlace p x
      → DifferAt sources p.source overlap.source x → LiesInOne new x

-- What is noted of overlaps.
pub record AreCompared (sources : List SourceParts) (places overlaps : List Place) (noted : List Difference)
    : Type 0 where
  pub sound : AllByRecursion (IsDifferenceOf sources) noted
  pub found : (q : Place) (x : ℕ) (p : Place) → In q overlaps → LiesInPlace q x → In p places → LiesInPlace p x
      → DifferAt sources p.source q.source x → LiesInOne noted x
