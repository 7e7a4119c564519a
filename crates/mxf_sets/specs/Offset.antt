-- The place of an edit unit in its essence stream by an index table segment, and its entry (ST 377-1, look-up of the
-- stream offset; duration 0 of a segment with entries is this project's profile). Start and duration aren't negative.
use Rattle.std.specs.Prelude.{ℕ, ◌+◌, ◌-◌, ◌*◌, nat_lt, nat_le, ◌==◌, ◌&&◌, ◌||◌, Bool, if◌then◌else◌, drop, Option}
use Rattle.std.specs.Prelude.{Some, None, slice_index, unsigned_abs}
use Rattle.std.specs.Int.{w8, cast_signed}
use Rattle.byteorder.specs.Endian.{big_number}
use Rattle.mxf_sets.specs.Segment.{SegmentParts, entry_count, entry_size, is_constant}
use Rattle.mxf_sets.specs.declared.segment.offset.IndexEntry.{IndexEntry}

-- The stream offset of an entry: the eight bytes after its first three.
abbrev pub entry_offset : SegmentParts → ℕ → ℕ
entry_offset s place = big_number 8 (drop (place * entry_size s.numbers + 3) s.entries)

-- A segment of edit units of one size covers the units from its start up to its start and duration. If the duration is
-- 0, it covers all from its start on.
abbrev pub covers_constant : SegmentParts → ℕ → Bool
covers_constant s unit =
    let start = unsigned_abs s.numbers.start in
    let duration = unsigned_abs s.numbers.duration in
    nat_le start unit && (duration == 0 || nat_lt unit (start + duration))

-- Another covers those from its start up to its start and duration that have an entry.
abbrev pub covers_entry : SegmentParts → ℕ → Bool
covers_entry s unit =
    let start = unsigned_abs s.numbers.start in
    let duration = unsigned_abs s.numbers.duration in
    nat_le start unit && nat_lt unit (start + duration) && nat_lt (unit - start) (entry_count s)

-- The place of a unit that the segment covers.
abbrev pub stream_offset : SegmentParts → ℕ → Option ℕ
stream_offset s unit =
    let by_size = if covers_constant s unit then Some (s.numbers.unit_bytes * unit) else None in
    let place = unit - unsigned_abs s.numbers.start in
    let by_entry = if covers_entry s unit then Some (entry_offset s place) else None in
    if is_constant s.numbers then by_size else by_entry

-- The front of an entry (ST 377-1, Index Table Segment): two signed numbers and the flags, of one byte each.
abbrev pub entry_at : SegmentParts → ℕ → IndexEntry
entry_at s place =
    let from = place * entry_size s.numbers in
    record {
      temporal_offset = cast_signed w8 (slice_index s.entries from);
      key_frame_offset = cast_signed w8 (slice_index s.entries (from + 1));
      flags = slice_index s.entries (from + 2);
    }

-- The entry of a unit. There is none if units have one size.
abbrev pub index_entry : SegmentParts → ℕ → Option IndexEntry
index_entry s unit =
    if is_constant s.numbers then None
    else (if covers_entry s unit then Some (entry_at s (unit - unsigned_abs s.numbers.start)) else None)
