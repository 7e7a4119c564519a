-- The last edit unit of an index (ST 377-1, Index Table Segment; up to which unit it is looked for is this project's
-- profile). It is by the clear notes alone.
use Rattle.std.specs.Prelude.{◌≡◌, ℕ, ◌<◌, ◌≤◌, ◌⊎◌, pos, List, Some}
use Rattle.mxf_klv.specs.Parts.{NoteParts}
use Rattle.mxf_sets.specs.Segment.{SegmentParts}
use Rattle.mxf_sets.specs.Offset.{stream_offset}
use Rattle.mxf_views.specs.Places.{IsSegmentAt, SegmentAtParts, greatest_unit}

-- A segment gives a unit a place, whichever.
pub record GivesPlace (s : SegmentParts) (unit : ℕ) : Type 0 where
  pub offset : ℕ
  pub given : stream_offset s unit ≡ Some offset

-- A segment is endless: its units have one size, and its duration is 0. It gives each unit from its start on a place.
pub record IsEndless (s : SegmentParts) : Type 0 where
  pub one_size : 0 < s.numbers.unit_bytes
  pub duration : s.numbers.duration ≡ pos 0

-- A clear readable segment of the IndexSID gives the unit a place.
pub record IsPlaced (notes : List NoteParts) (index_sid unit : ℕ) : Type 0 where
  pub by : SegmentAtParts
  pub segment : IsSegmentAt notes by
  pub index : by.segment.numbers.index_sid ≡ index_sid
  pub place : GivesPlace by.segment unit

-- One of the IndexSID is endless.
pub record HasNoEnd (notes : List NoteParts) (index_sid : ℕ) : Type 0 where
  pub by : SegmentAtParts
  pub segment : IsSegmentAt notes by
  pub index : by.segment.numbers.index_sid ≡ index_sid
  pub endless : IsEndless by.segment

-- The last of the units with a property, up to the greatest that can be asked for.
pub record IsLastWith (P : ℕ → Type 0) (last : ℕ) : Type 0 where
  pub has : P last
  pub in_range : last ≤ greatest_unit
  pub others : (unit : ℕ) → unit ≤ greatest_unit → P unit → unit ≤ last

-- None of these units has the property.
abbrev pub NoneWith : (ℕ → Type 0) → Type 0
NoneWith P = (unit : ℕ) → unit ≤ greatest_unit → ¬ P unit

-- The last unit of an index that ends: the last one that has a place.
pub record IsLastUnit (notes : List NoteParts) (index_sid last : ℕ) : Type 0 where
  pub ends : ¬ HasNoEnd notes index_sid
  pub greatest : IsLastWith (IsPlaced notes index_sid) last

-- It has none: it doesn't end, or no unit has a place.
abbrev pub HasNoLastUnit : List NoteParts → ℕ → Type 0
HasNoLastUnit notes index_sid = HasNoEnd notes index_sid ⊎ NoneWith (IsPlaced notes index_sid)
