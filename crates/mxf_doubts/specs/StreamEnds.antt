-- Edit units that an index puts behind the end of the essence (ST 377-1, Stream Offset and BodyOffset; what is in doubt is this
-- project's profile).
use Rattle.std.specs.Prelude.{ℕ, ◌+◌, ◌-◌, Bool, true, false, ◌&&◌, ◌||◌, ◌==◌, not, nat_le, max, is_some, if◌then◌else◌}
use Rattle.std.specs.Prelude.{Option, None, Some, List, [], ◌∷◌, filter, unsigned_abs}
use Rattle.std.specs.Option.{option_map_or}
use Rattle.std.specs.List.{filter_map, list_all, list_any, range_with_len}
use Rattle.mxf_klv.specs.Parts.{NoteParts}
use Rattle.mxf_sets.specs.declared.pack.random_index.RipEntry.{RipEntry}
use Rattle.mxf_sets.specs.declared.segment.numbers.SegmentNumbers.{SegmentNumbers}
use Rattle.mxf_sets.specs.Offset.{stream_offset}
use Rattle.mxf_sets.specs.Segment.{SegmentParts, entry_count, is_constant}
use Rattle.mxf_views.specs.Places.{SegmentAtParts, segments_of}
use Rattle.mxf_views.specs.RandomIndexView.{rip_view_of}
use Rattle.mxf_views.specs.declared.random_index.RipView.{RipView}
use Rattle.mxf_views.specs.declared.random_index.RipView.TheVariants.{Absent, Several, Unreadable, One}
use Rattle.mxf_views.specs.declared.random_index.Standing.{Standing}
use Rattle.mxf_views.specs.declared.random_index.Standing.TheVariants.{Held, Differs, Missing}
use Rattle.mxf_places.specs.Held.{end_of_file}
use Rattle.mxf_units.specs.EssenceZones.{begins_with, parts_of}
use Rattle.mxf_units.specs.declared.essence_zone.EssenceZone.{EssenceZone}
use Rattle.mxf_doubts.specs.Sizes.{is_other_than}
use Rattle.mxf_units.specs.declared.essence_zone.part.StreamPart.{StreamPart}

-- ---- The last place that a segment gives

-- The greatest of numbers and of one that was seen before.
abbrev pub greatest_of : Option ℕ → List ℕ → Option ℕ
greatest_of seen [] = seen
greatest_of seen (x ∷ xs) = greatest_of (Some (option_map_or (max x) seen x)) xs

-- The stream offsets of the units that a segment lists.
abbrev pub listed_offsets : SegmentParts → List ℕ
listed_offsets s = filter_map (stream_offset s) (range_with_len (unsigned_abs s.numbers.start) (entry_count s))

-- The segment is one of units of one size, of the same index and stream, and of another size.
abbrev pub is_other_size : SegmentNumbers → SegmentAtParts → Bool
is_other_size n t = is_other_than n.index_sid n.body_sid n.unit_bytes t

abbrev pub has_other_size : List NoteParts → SegmentNumbers → Bool
has_other_size notes n = list_any (is_other_size n) (segments_of notes)

-- The stream offset of the last of units of one size, if they end and all such segments of the index and stream have one size.
abbrev pub last_sized : List NoteParts → SegmentParts → Option ℕ
last_sized notes s =
    let n = s.numbers in
    if (unsigned_abs n.duration == 0) || has_other_size notes n then None
    else stream_offset s (unsigned_abs n.start + (unsigned_abs n.duration - 1))

-- The greatest stream offset that a segment gives a unit.
unfoldable pub last_offset : List NoteParts → SegmentParts → Option ℕ
last_offset notes s = if is_constant s.numbers then last_sized notes s else greatest_of None (listed_offsets s)

-- ---- The last part of a stream

abbrev pub is_of_stream : ℕ → StreamPart → Bool
is_of_stream body_sid p = p.body_sid == body_sid

-- Where the essence of the first of parts lies, if no other begins with it in the stream.
abbrev pub zone_of_last : List StreamPart → Option EssenceZone
zone_of_last [] = None
zone_of_last (p ∷ []) = p.zone
zone_of_last (p ∷ q ∷ parts) = if p.body_offset == q.body_offset then None else p.zone

-- The first of the others begins where a part does in the same stream.
abbrev pub begins_another : StreamPart → List StreamPart → Bool
begins_another p [] = false
begins_another p (q ∷ parts) = begins_with p q

-- Where the essence of the first of parts lies, if the part is one of the stream and no other begins with it there.
abbrev pub zone_by_first : ℕ → List StreamPart → Option EssenceZone
zone_by_first body_sid [] = None
zone_by_first body_sid (p ∷ parts) = if not (p.body_sid == body_sid) || begins_another p parts then None else p.zone

-- Where the last part of a stream lies.
unfoldable pub last_zone : List NoteParts → ℕ → Option EssenceZone
last_zone notes body_sid = zone_of_last (filter (is_of_stream body_sid) (parts_of notes))

-- ---- What lies behind

abbrev pub is_held_entry : RipEntry × Standing → Bool
is_held_entry (entry, Held) = true
is_held_entry (entry, Differs) = false
is_held_entry (entry, Missing) = false

abbrev pub lists_held : RipView → Bool
lists_held Absent = false
lists_held Several = false
lists_held (Unreadable offset) = false
lists_held (One r) = list_all is_held_entry r.entries

-- The end of the file is known, and all partitions that the random index pack lists are held.
abbrev pub are_partitions_held : List NoteParts → Bool
are_partitions_held notes = is_some (end_of_file notes) && lists_held (rip_view_of notes)

-- A stream offset lies at the limit of a zone or above.
abbrev pub reaches_limit : ℕ → EssenceZone → Bool
reaches_limit offset z = option_map_or (λ limit. nat_le (limit + z.body_offset) (offset + z.origin)) z.limit false

abbrev pub is_behind : Option EssenceZone → Option ℕ → Bool
is_behind zone last = option_map_or (λ z. option_map_or (λ offset. reaches_limit offset z) last false) zone false

-- A unit of the segment lies behind the end of the essence of its stream.
unfoldable pub is_behind_end : List NoteParts → SegmentAtParts → Bool
is_behind_end notes s =
    are_partitions_held notes && is_behind (last_zone notes s.segment.numbers.body_sid) (last_offset notes s.segment)
