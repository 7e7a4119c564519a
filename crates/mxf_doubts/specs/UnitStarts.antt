-- Where an index puts the beginnings of edit units, and whether a packet begins there (ST 377-1, Stream Offset and BodyOffset;
-- what is in doubt is this project's profile).
use Rattle.std.specs.Prelude.{◌≡◌, ◌↔◌, ℕ, ◌+◌, ◌-◌, ◌/◌, ◌^◌, Bool, true, false, ◌&&◌, ◌||◌, ◌==◌, not, nat_le, nat_lt, is_some}
use Rattle.std.specs.Prelude.{if◌then◌else◌, Option, None, Some, Result, Ok, Err, List, [], ◌∷◌, ◌++◌, filter, find, flat_map, map}
use Rattle.std.specs.Prelude.{unsigned_abs}
use Rattle.std.specs.Option.{option_map, option_map_or}
use Rattle.std.specs.List.{filter_map, list_any, range_with_len}
use Rattle.std.specs.Ordering.{bool_cmp, nat_cmp, on, ordering_then, then_cmp}
use Rattle.std.specs.declared.cmp.Ordering.{Ordering}
use Rattle.mxf_klv.specs.Parts.{NoteParts}
use Rattle.mxf_klv.specs.Kind.{kind_of}
use Rattle.mxf_klv.specs.Note.{end_of}
use Rattle.mxf_klv.specs.Rising.{union}
use Rattle.mxf_sets.specs.Offset.{index_entry}
use Rattle.mxf_sets.specs.Segment.{entry_count, is_constant}
use Rattle.mxf_sets.specs.declared.segment.numbers.SegmentNumbers.{SegmentNumbers}
use Rattle.mxf_catalogue.specs.Disputes.{clear_notes, undisputed_notes}
use Rattle.mxf_catalogue.specs.declared.run.Run.{Run}
use Rattle.mxf_catalogue.specs.Runs.{LiesIn}
use Rattle.mxf_views.specs.Copies.{is_fill}
use Rattle.mxf_views.specs.Places.{SegmentAtParts, segments_of}
use Rattle.mxf_views.specs.declared.index.place.StreamPlace.{StreamPlace}
use Rattle.mxf_units.specs.EssenceZones.{parts_of, zone_at}
use Rattle.mxf_units.specs.Streams.{place_of, segments_for}
use Rattle.mxf_units.specs.Units.{are_all_held, file_offset}
use Rattle.mxf_units.specs.declared.essence_zone.EssenceZone.{EssenceZone}
use Rattle.mxf_units.specs.declared.essence_zone.part.StreamPart.{StreamPart}
use Rattle.mxf_units.specs.declared.standing.UnitStanding.{UnitStanding}
use Rattle.mxf_doubts.specs.declared.starts.index.OwnSegment.{OwnSegment}
use Rattle.mxf_doubts.specs.declared.starts.stream_index.StreamIndex.{StreamIndex}
use Rattle.mxf_doubts.specs.declared.starts.UnitStart.{UnitStart}
use Rattle.mxf_doubts.specs.Sizes.{is_other_than}
use Rattle.mxf_doubts.specs.Strange.{is_container_packet}

-- ---- Packets

-- A clear packet of an essence container begins at the offset.
abbrev pub begins_packet : List NoteParts → ℕ → Bool
begins_packet notes x = list_any (λ n. (n.offset == x) && is_container_packet n) (clear_notes notes)

-- A packet of an essence container, or a fill that one follows.
unfoldable pub leads_to_packet : List NoteParts → NoteParts → Bool
leads_to_packet notes n = is_container_packet n || (is_fill (kind_of n.key) && begins_packet notes (end_of n))

-- The offset lies in the packet, above its first byte.
abbrev pub is_amid : ℕ → NoteParts → Bool
is_amid x n = nat_lt n.offset x && nat_lt x (end_of n)

-- It lies so in a clear packet of an essence container, or in a clear fill that one follows.
abbrev pub misses_packet : List NoteParts → ℕ → Bool
misses_packet notes x = list_any (is_amid x) (filter (leads_to_packet notes) (clear_notes notes))

-- The runs have these offsets.
abbrev pub AreMisses : List NoteParts → List Run → Type 0
AreMisses notes runs = (x : ℕ) → LiesIn runs x ↔ (misses_packet notes x ≡ true)

-- ---- The index that is asked of a stream

abbrev pub stream_index : SegmentNumbers → StreamIndex
stream_index n = record { body_sid = n.body_sid; index_sid = n.index_sid; unit_bytes = n.unit_bytes }

abbrev pub stream_index_in : SegmentAtParts → StreamIndex
stream_index_in s = stream_index s.segment.numbers

-- By BodySID, then by IndexSID, then by the bytes of a unit.
abbrev pub stream_index_cmp : StreamIndex → StreamIndex → Ordering
stream_index_cmp =
    then_cmp (on (λ s. s.body_sid) nat_cmp)
    (then_cmp (on (λ s. s.index_sid) nat_cmp) (on (λ s. s.unit_bytes) nat_cmp))

-- What segments state, in its order.
abbrev pub stream_indexes : List SegmentAtParts → List StreamIndex
stream_indexes segments = union stream_index_cmp [] (map stream_index_in segments)

-- The first of a stream: that of its least IndexSID.
abbrev pub first_of : ℕ → List StreamIndex → Option StreamIndex
first_of body_sid streams = find (λ s. s.body_sid == body_sid) streams

abbrev pub is_sized : SegmentAtParts → Bool
is_sized s = is_constant s.segment.numbers

abbrev pub sized_segments : List NoteParts → List SegmentAtParts
sized_segments notes = filter is_sized (segments_of notes)

-- The index is the one that is asked of the stream.
abbrev pub is_asked : List NoteParts → ℕ → ℕ → Bool
is_asked notes index_sid body_sid =
    option_map_or (λ s. s.index_sid == index_sid) (first_of body_sid (stream_indexes (segments_of notes))) false

-- Segments of the stream's first index with units of one size state more sizes than one.
abbrev pub is_uneven : List NoteParts → ℕ → Bool
is_uneven notes body_sid =
    option_map_or (λ s. list_any (is_other_than s.index_sid s.body_sid s.unit_bytes) (segments_of notes))
    (first_of body_sid (stream_indexes (sized_segments notes))) false

-- ---- Units that are asked, each by its IndexSID and its number

abbrev pub unit_cmp : ℕ × ℕ → ℕ × ℕ → Ordering
unit_cmp a b = ordering_then (nat_cmp a.0 b.0) (nat_cmp a.1 b.1)

-- The unit, if the segment lists it by an entry.
abbrev pub listed_unit : SegmentAtParts → ℕ → Option (ℕ × ℕ)
listed_unit s unit = option_map (λ entry. (s.segment.numbers.index_sid, unit)) (index_entry s.segment unit)

unfoldable pub listed_in : SegmentAtParts → List (ℕ × ℕ)
listed_in s =
    filter_map (listed_unit s) (range_with_len (unsigned_abs s.segment.numbers.start) (entry_count s.segment))

-- The units that segments list, in their order.
abbrev pub listed_units : List NoteParts → List (ℕ × ℕ)
listed_units notes = union unit_cmp [] (flat_map listed_in (segments_of notes))

abbrev pub is_listed : List NoteParts → ℕ → ℕ → Bool
is_listed notes index_sid unit =
    list_any (λ u. (u.0 == index_sid) && (u.1 == unit)) (listed_units notes)

-- The units at which a segment begins and ends.
abbrev pub borders_of : SegmentAtParts → List (ℕ × ℕ)
borders_of s =
    let n = s.segment.numbers in
    let start = unsigned_abs n.start in
    (n.index_sid, start) ∷ (n.index_sid, start + entry_count s.segment) ∷ (n.index_sid, start + unsigned_abs n.duration) ∷ []

-- A number of a unit lies below 2^64.
abbrev pub is_number : ℕ × ℕ → Bool
is_number u = nat_lt u.1 (2 ^ 64)

-- The first two of the units of one size that begin at an offset of their stream or above.
unfoldable pub units_from : StreamIndex → ℕ → List (ℕ × ℕ)
units_from s from =
    let first = (from + (s.unit_bytes - 1)) / s.unit_bytes in
    filter is_number ((s.index_sid, first) ∷ (s.index_sid, first + 1) ∷ [])

abbrev pub is_in_zone : EssenceZone → ℕ → Bool
is_in_zone z x = nat_le z.origin x && option_map_or (λ e. nat_lt x e) z.limit true

-- Those at packets of a zone that begin at the offsets.
abbrev pub units_at : List ℕ → EssenceZone → StreamIndex → List (ℕ × ℕ)
units_at offsets z s = flat_map (λ x. units_from s (z.body_offset + (x - z.origin))) offsets

abbrev pub units_by : List ℕ → Option EssenceZone → Option StreamIndex → List (ℕ × ℕ)
units_by offsets (Some z) (Some s) = units_at (filter (is_in_zone z) offsets) z s
units_by offsets _ _ = []

-- Those at the packets of a partition.
abbrev pub units_of_part : List ℕ → List StreamIndex → StreamPart → List (ℕ × ℕ)
units_of_part offsets sized p = units_by offsets p.zone (first_of p.body_sid sized)

-- Where clear packets begin.
abbrev pub packet_offsets : List NoteParts → List ℕ
packet_offsets notes = map (λ n. n.offset) (clear_notes notes)

-- The units that are asked: of those at which a packet begins each one, and the first ones of those in a row that miss their
-- packets.
abbrev pub asked_units : List NoteParts → List StreamPart → List (ℕ × ℕ)
asked_units notes parts =
    union unit_cmp []
    ((flat_map listed_in (segments_of notes) ++ flat_map borders_of (segments_of notes))
    ++ flat_map (units_of_part (packet_offsets notes) (stream_indexes (sized_segments notes))) parts)

-- ---- The segments of an index

abbrev pub own_segment : SegmentAtParts → OwnSegment
own_segment s = record { index_sid = s.segment.numbers.index_sid; offset = s.offset }

abbrev pub own_segment_cmp : OwnSegment → OwnSegment → Ordering
own_segment_cmp = then_cmp (on (λ s. s.index_sid) nat_cmp) (on (λ s. s.offset) nat_cmp)

-- Segments by their IndexSIDs, then by where they begin.
abbrev pub own_segments : List NoteParts → List OwnSegment
own_segments notes = union own_segment_cmp [] (map own_segment (segments_of notes))

-- The segment that begins there.
abbrev pub segment_there : List NoteParts → OwnSegment → Option SegmentAtParts
segment_there notes o = find (λ s. s.offset == o.offset) (segments_of notes)

-- ---- Where units begin

abbrev pub is_below : ℕ → Option ℕ → Bool
is_below x limit = option_map_or (λ e. nat_lt x e) limit true

-- A packet begins at the origin: BodyOffset doesn't count from inside one.
abbrev pub begins_alone : List NoteParts → ℕ → Bool
begins_alone notes x = is_some (find (λ n. n.offset == x) (undisputed_notes notes))

-- The offset lies in the zone, as far as what is held says.
abbrev pub is_inside : List NoteParts → EssenceZone → ℕ → Bool
is_inside notes z x =
    begins_alone notes z.origin && (is_below x z.limit && (z.is_sure || are_all_held notes z.origin (x + 1)))

-- The start of a unit whose packet begins at the offset, or that misses its packet.
abbrev pub start_by : List NoteParts → ℕ → ℕ → EssenceZone → ℕ → Option UnitStart
start_by notes body_sid unit z x =
    if is_inside notes z x && (begins_packet notes x || misses_packet notes x)
    then Some (record {
      body_sid = body_sid;
      body_offset = z.body_offset;
      unit = unit;
      offset = x;
      is_good = begins_packet notes x;
    })
    else None

abbrev pub start_in : List NoteParts → ℕ → StreamPlace → Result EssenceZone UnitStanding → Option UnitStart
start_in notes unit p (Err standing) = None
start_in notes unit p (Ok z) = start_by notes p.body_sid unit z (file_offset z p.offset)

-- The place of the unit counts: the index is the one that is asked of the stream, and if no segment lists the unit, those with
-- units of one size state one size.
abbrev pub counts : List NoteParts → ℕ → ℕ → ℕ → Bool
counts notes index_sid unit body_sid =
    is_asked notes index_sid body_sid && (is_listed notes index_sid unit || not (is_uneven notes body_sid))

abbrev pub start_at : List NoteParts → ℕ → ℕ → Result StreamPlace UnitStanding → Option UnitStart
start_at notes index_sid unit (Err standing) = None
start_at notes index_sid unit (Ok p) =
    if counts notes index_sid unit p.body_sid
    then start_in notes unit p (zone_at (parts_of notes) p.body_sid p.offset)
    else None

-- The start of a unit of an index.
unfoldable pub start_of : List NoteParts → ℕ × ℕ → Option UnitStart
start_of notes u = if is_number u then start_at notes u.0 u.1 (place_of (segments_for notes u.0) u.1) else None

-- By BodySID, then by BodyOffset, then by the unit.
abbrev pub start_cmp : UnitStart → UnitStart → Ordering
start_cmp =
    then_cmp (on (λ s. s.body_sid) nat_cmp)
    (then_cmp (on (λ s. s.body_offset) nat_cmp)
    (then_cmp (on (λ s. s.unit) nat_cmp)
    (then_cmp (on (λ s. s.offset) nat_cmp) (on (λ s. s.is_good) bool_cmp))))

-- The starts of the units that are asked, in their order.
abbrev pub starts_of : List NoteParts → List UnitStart
starts_of notes = union start_cmp [] (filter_map (start_of notes) (asked_units notes (parts_of notes)))

-- ---- Rows of units that miss their packets

-- The start before is such a one of the same partition.
abbrev pub goes_on : Option UnitStart → UnitStart → Bool
goes_on None s = false
goes_on (Some r) s = not r.is_good && ((r.body_sid == s.body_sid) && (r.body_offset == s.body_offset))

abbrev pub begins_row : Option UnitStart → UnitStart → Bool
begins_row before s = not s.is_good && not (goes_on before s)

-- The offsets of the first ones of rows, of starts in their order behind one.
abbrev pub first_misses : Option UnitStart → List UnitStart → List ℕ
first_misses before [] = []
first_misses before (s ∷ starts) =
    if begins_row before s then s.offset ∷ first_misses (Some s) starts else first_misses (Some s) starts

-- Where a unit is the first in a row that misses its packet.
unfoldable pub missed_starts : List NoteParts → List ℕ
missed_starts notes = first_misses None (starts_of notes)
