-- The named places between index table segments. The segment of a unit to which none gives a place may stand there (ST
-- 377-1, Index Table Segment; this project's profile).
use Rattle.std.specs.Prelude.{◌≡◌, ◌↔◌, ℕ, ◌*◌, ◌/◌, ◌<◌, ◌≤◌, ◌⊎◌, Some, List, length, slice_get, unsigned_abs}
use Rattle.std.specs.Ordering.{nat_cmp}
use Rattle.mxf_klv.specs.Rising.{In, IsRising}
use Rattle.mxf_views.specs.Places.{SegmentAtParts}
use Rattle.mxf_partial.specs.Named.{IsNamed}
use Rattle.mxf_units.specs.Streams.{segments_for}
use Rattle.mxf_units.specs.Units.{UnitsParts}
use Rattle.mxf_units.specs.declared.standing.UnitStanding.TheVariants as standings
use Rattle.mxf_units.specs.declared.unit.EditUnit.{EditUnit}
use Rattle.mxf_partial.specs.Wanted.{WantedParts, notes_of, wanted_units}

-- Segments of the index that begin at a unit or before it stand before the place, and all others after it.
abbrev pub LiesBetweenSegments : List SegmentAtParts → ℕ → ℕ → Type 0
LiesBetweenSegments segments unit x =
    (s : SegmentAtParts) → In s segments
    → (unsigned_abs s.segment.numbers.start ≤ unit → s.offset < x)
    × (unit < unsigned_abs s.segment.numbers.start → x < s.offset)

-- A named place where the segment of a unit with one of these numbers may stand.
pub record MayIndexOneOf (u : UnitsParts) (numbers : List ℕ) (x : ℕ) : Type 0 where
  pub named : IsNamed u.known.notes x
  pub number : ℕ
  pub among : In number numbers
  pub between : LiesBetweenSegments (segments_for u.known.notes u.index_sid) number x

-- A named place where the segment of a wanted unit to which none gives a place may stand.
pub record MayIndex (w : WantedParts) (x : ℕ) : Type 0 where
  pub named : IsNamed (notes_of w) x
  pub unit : EditUnit
  pub wanted : In unit (wanted_units w)
  pub standing : unit.standing ≡ standings.NotIndexed
  pub between : LiesBetweenSegments (segments_for (notes_of w) w.units.index_sid) unit.number x

-- One of the offsets of which this holds if they are 16 at most; of more, one of the 16 that lie evenly among them.
pub record IsOneOf16 (P : ℕ → Type 0) (x : ℕ) : Type 0 where
  pub places : List ℕ
  pub rising : IsRising nat_cmp places
  pub members : (y : ℕ) → In y places ↔ P y
  pub chosen : ((length places ≤ 16) × In x places)
      ⊎ ((16 < length places)
      × ((i : ℕ) × (i < 16) × (slice_get places (i * length places / 16) ≡ Some x)))

-- The index may go on at the place.
abbrev pub IsChosen : WantedParts → ℕ → Type 0
IsChosen w x = IsOneOf16 (MayIndex w) x
