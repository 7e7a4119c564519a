-- Segments beside which others say nothing new (ST 377-1, Edit Unit Byte Count).
use Rattle.std.specs.Prelude.{◌≡◌, ◌⊎◌, ◌+◌, ◌==◌, ◌&&◌, ◌||◌, ℕ, Bool, true, nat_le, nat_lt, Some, List, []}
use Rattle.mxf_klv.specs.Rising.{In}
use Rattle.mxf_sets.specs.Offset.{stream_offset}
use Rattle.mxf_views.specs.Places.{SegmentAtParts}
use Rattle.mxf_units.specs.declared.constant_units.ConstantUnits.{ConstantUnits}

-- The unit is one of those.
abbrev pub has_unit : ConstantUnits → ℕ → Bool
has_unit c unit = nat_le c.start unit && (c.duration == 0 || nat_lt unit (c.start + c.duration))

-- They are of the same stream and size as others, and all of them are among the others.
pub record AreAmong (units others : ConstantUnits) : Type 0 where
  pub body_sid : units.body_sid ≡ others.body_sid
  pub unit_bytes : units.unit_bytes ≡ others.unit_bytes
  pub each : (unit : ℕ) → has_unit units unit ≡ true → has_unit others unit ≡ true

-- What the second segment says of units the first says too: it gives the same place to each unit to which the second
-- gives one, in the same stream, by units of the same size, and the second lists no unit by an entry.
pub record SaysAllOf (t s : SegmentAtParts) : Type 0 where
  pub body_sid : t.segment.numbers.body_sid ≡ s.segment.numbers.body_sid
  pub unit_bytes : t.segment.numbers.unit_bytes ≡ s.segment.numbers.unit_bytes
  pub given : (unit offset : ℕ) → stream_offset s.segment unit ≡ Some offset → stream_offset t.segment unit ≡ Some offset
  pub unlisted : s.segment.entries ≡ []

-- Some of the segments, which say all that any of them says.
pub record SayAll (segments left : List SegmentAtParts) : Type 0 where
  pub among : (s : SegmentAtParts) → In s left → In s segments
  pub each : (s : SegmentAtParts) → In s segments
      → In s left ⊎ ((t : SegmentAtParts) × In t left × SaysAllOf t s)
