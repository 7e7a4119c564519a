-- Which source a byte is read of, if several give it (this project's profile).
use Rattle.std.specs.Prelude.{◌≡◌, ◌↔◌, ◌⊎◌, ◌<◌, ◌≤◌, ℕ, ◌+◌, List, [], ◌∷◌, ◌++◌, slice_get, Some, if◌then◌else◌, max}
use Rattle.std.specs.Prelude.{min, nat_lt}
use Rattle.std.specs.List.Sorted.{IsNonDecreasingBy, IsPermutation}
use Rattle.mxf_klv.specs.Rising.{In}
use Rattle.mxf_catalogue.specs.declared.run.Run.{Run}
use Rattle.mxf_catalogue.specs.Covers.{IsCover}
use Rattle.mxf_catalogue.specs.Runs.{LiesIn, run}
use Rattle.mxf_hand.specs.declared.given.Extent.{Extent}
use Rattle.mxf_hand.specs.declared.given.Place.{Place}

-- What contracts see of extents that were placed: the extents, and the offsets that one of them has, as maximal runs.
pub record GivenParts : Type 0 where
  pub extents : List Extent
  pub given : List Run

-- The offset lies in the extent.
pub record LiesInExtent (e : Extent) (x : ℕ) : Type 0 where
  pub from : e.offset ≤ x
  pub before : x < e.offset + e.size

-- The offset lies in the place.
pub record LiesInPlace (p : Place) (x : ℕ) : Type 0 where
  pub from : p.start ≤ x
  pub before : x < p.end

-- The place has an offset, and its source has all of them.
pub record IsPlaceOf (extents : List Extent) (p : Place) : Type 0 where
  pub extent : Extent
  pub is : slice_get extents p.source ≡ Some extent
  pub some : p.start < p.end
  pub from : extent.offset ≤ p.start
  pub before : p.end ≤ extent.offset + extent.size

-- Each place begins at or above the end of the one before.
abbrev pub AreApart : ℕ → List Place → Type 0
AreApart low [] = Unit {0}
AreApart low (p ∷ places) = (low ≤ p.start) × AreApart p.end places

-- The places of extents: each offset of an extent lies in one of them, and in one alone. If the place is of another
-- source, the offset lies in an overlap of its own source.
pub record ArePlaces (extents : List Extent) (places overlapping : List Place) (runs : List Run) : Type 0 where
  pub within : (p : Place) → In p places → IsPlaceOf extents p
  pub apart : AreApart 0 places
  pub cover : IsCover runs
  pub given : (x : ℕ) → LiesIn runs x ↔ ((p : Place) × In p places × LiesInPlace p x)
  pub all : (e : Extent) (x : ℕ) → In e extents → LiesInExtent e x → LiesIn runs x
  pub shared : (p : Place) → In p overlapping → IsPlaceOf extents p
  pub overlaps : (number : ℕ) (e : Extent) (x : ℕ) → slice_get extents number ≡ Some e → LiesInExtent e x
      → (p : Place) × (p.source ≡ number) × LiesInPlace p x × (In p places ⊎ In p overlapping)

-- The same as functions of the extents.

abbrev pub place : ℕ → ℕ → ℕ → Place
place start end source = record { start = start; end = end; source = source }

-- From a start up to an end, if that has an offset.
abbrev pub some_place : ℕ → ℕ → ℕ → List Place
some_place start end source = if nat_lt start end then place start end source ∷ [] else []

-- All offsets of each extent, from the source with a number on.
abbrev pub spans_from : ℕ → List Extent → List Place
spans_from number [] = []
spans_from number (e ∷ extents) =
    some_place e.offset (e.offset + e.size) number ++ spans_from (number + 1) extents

-- Those of all extents, by their starts.
pub record AreSpans (extents : List Extent) (spans : List Place) : Type 0 where
  pub all : IsPermutation (spans_from 0 extents) spans
  pub rise : IsNonDecreasingBy (λ p. p.start) spans

-- Of each span what lies above an offset, and above all spans before it.
abbrev pub places_above : ℕ → List Place → List Place
places_above reached [] = []
places_above reached (p ∷ spans) =
    some_place (max reached p.start) p.end p.source ++ places_above (max reached p.end) spans

-- Of each span what lies below an offset, or below the end of a span before it.
abbrev pub overlaps_below : ℕ → List Place → List Place
overlaps_below reached [] = []
overlaps_below reached (p ∷ spans) =
    some_place p.start (min reached p.end) p.source ++ overlaps_below (max reached p.end) spans

-- The offsets of the place.
abbrev pub run_of : Place → Run
run_of p = run p.start p.end
