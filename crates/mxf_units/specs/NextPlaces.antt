-- Edit units of one size, and the next place after an offset of a stream by them and by what other segments list (ST
-- 377-1, Index Table Segment). A law says that it is the next place of all segments.
use Rattle.std.specs.Prelude.{◌≡◌, ◌+◌, ◌-◌, ◌*◌, ◌/◌, ◌^◌, ◌<◌, ◌==◌, ◌||◌, ℕ, max, min, nat_lt, if◌then◌else◌, List}
use Rattle.std.specs.Prelude.{Option, None, Some, unsigned_abs}
use Rattle.std.specs.List.{filter_map}
use Rattle.mxf_sets.specs.Segment.{entry_count, is_constant}
use Rattle.mxf_views.specs.Places.{SegmentAtParts}
use Rattle.mxf_units.specs.Streams.{least_above, lesser, next_of, offsets_in}
use Rattle.mxf_units.specs.declared.constant_units.ConstantUnits.{ConstantUnits}
use Rattle.mxf_views.specs.declared.index.place.StreamPlace.{StreamPlace}

-- The units of a segment, if they have one size.
abbrev pub constant_units : SegmentAtParts → Option ConstantUnits
constant_units s =
    let n = s.segment.numbers in
    if is_constant n then Some (record {
      body_sid = n.body_sid;
      unit_bytes = n.unit_bytes;
      start = unsigned_abs n.start;
      duration = unsigned_abs n.duration;
    }) else None

-- They have a size, and the first of them begins at an offset that is small.
pub record AreSized (c : ConstantUnits) : Type 0 where
  pub some : 0 < c.unit_bytes
  pub small : c.unit_bytes * c.start < 2 ^ 96

-- The first place above an offset that one of them has.
abbrev pub place_above : ℕ → ConstantUnits → Option StreamPlace
place_above offset c =
    let unit = max c.start (offset / c.unit_bytes + 1) in
    if c.duration == 0 || nat_lt unit (c.start + c.duration)
    then Some (record { body_sid = c.body_sid; offset = c.unit_bytes * unit }) else None

-- Offsets of all streams as numbers, those of a stream after those of streams of lesser BodySIDs.
abbrev pub number_of : ℕ → ℕ → ℕ
number_of body_sid offset = body_sid * 2 ^ 96 + offset

abbrev pub greatest_offset : ℕ
greatest_offset = 2 ^ 96 - 1

abbrev pub first_number : ConstantUnits → ℕ
first_number c = number_of c.body_sid (c.unit_bytes * c.start)

-- Those without an end reach up to the greatest offset.
abbrev pub end_number : ConstantUnits → ℕ
end_number c =
    number_of c.body_sid (if c.duration == 0 then greatest_offset
    else min (c.unit_bytes * (c.start + c.duration)) greatest_offset)

-- Places that are listed, and units of one size.
pub record NextPlacesParts : Type 0 where
  pub listed : List StreamPlace
  pub units : List ConstantUnits

-- The next place after an offset by these.
abbrev pub next_by : NextPlacesParts → ℕ → ℕ → Option ℕ
next_by p body_sid offset =
    lesser (least_above offset (offsets_in body_sid p.listed))
    (least_above offset (offsets_in body_sid (filter_map (place_above offset) p.units)))

-- They give the next places of these segments.
abbrev pub AreNextPlaces : List SegmentAtParts → NextPlacesParts → Type 0
AreNextPlaces segments p = (body_sid offset : ℕ) → next_by p body_sid offset ≡ next_of segments body_sid offset

-- ---- the units of a segment

abbrev pub first_unit : SegmentAtParts → ℕ
first_unit s = unsigned_abs s.segment.numbers.start

-- It gives no greater unit a place: of those that can be asked for, if it has no end.
abbrev pub units_end : SegmentAtParts → ℕ
units_end s =
    let start = unsigned_abs s.segment.numbers.start in
    let duration = unsigned_abs s.segment.numbers.duration in
    if is_constant s.segment.numbers then (if duration == 0 then 2 ^ 64 else start + duration)
    else start + min duration (entry_count s.segment)
