-- Places in essence streams, and what segments of an index say of an edit unit (ST 377-1, Index Table Segment; what
-- holds if segments disagree is this project's profile).
use Rattle.std.specs.Prelude.{◌≡◌, ℕ, ◌+◌, ◌/◌, ◌^◌, ◌<◌, ◌≤◌, Bool, false, ◌&&◌, ◌==◌, not, nat_lt, max, min}
use Rattle.std.specs.Prelude.{if◌then◌else◌, Option, None, Some, Result, Err, List, [], ◌∷◌, ◌++◌, filter, unsigned_abs}
use Rattle.std.specs.Option.{ok_or, option_map_or}
use Rattle.std.specs.List.{filter_map, flat_map, list_any, range_with_len}
use Rattle.std.specs.Ordering.{int_eq}
use Rattle.mxf_klv.specs.Parts.{NoteParts}
use Rattle.mxf_klv.specs.Rising.{In, union}
use Rattle.mxf_sets.specs.Segment.{entry_count, is_constant}
use Rattle.mxf_sets.specs.Offset.{index_entry, stream_offset}
use Rattle.mxf_sets.specs.declared.segment.offset.IndexEntry.{IndexEntry}
use Rattle.mxf_views.specs.Places.{SegmentAtParts, place_cmp, place_in, segments_of}
use Rattle.mxf_units.specs.declared.standing.UnitStanding.{UnitStanding}
use Rattle.mxf_units.specs.declared.standing.UnitStanding.TheVariants as standings
use Rattle.mxf_views.specs.declared.index.place.StreamPlace.{StreamPlace}

-- A segment of one of these gives some unit this place: an offset in the stream of its BodySID.
pub record IsStreamPlace (segments : List SegmentAtParts) (body_sid offset : ℕ) : Type 0 where
  pub by : SegmentAtParts
  pub held : In by segments
  pub body : by.segment.numbers.body_sid ≡ body_sid
  pub unit : ℕ
  pub given : stream_offset by.segment unit ≡ Some offset

-- The next place after an offset: the least above it that is given.
pub record IsNext (segments : List SegmentAtParts) (body_sid offset next : ℕ) : Type 0 where
  pub given : IsStreamPlace segments body_sid next
  pub above : offset < next
  pub least : (other : ℕ) → IsStreamPlace segments body_sid other → offset < other → next ≤ other

-- That, or none if none is given above.
abbrev pub IsNextOf : List SegmentAtParts → ℕ → ℕ → Option ℕ → Type 0
IsNextOf segments body_sid offset None = (x : ℕ) → IsStreamPlace segments body_sid x → x ≤ offset
IsNextOf segments body_sid offset (Some next) = IsNext segments body_sid offset next

-- The same as functions. Laws tie them to the relations.

-- The segments of an IndexSID.
abbrev pub segments_for : List NoteParts → ℕ → List SegmentAtParts
segments_for notes index_sid = filter (λ s. s.segment.numbers.index_sid == index_sid) (segments_of notes)

abbrev pub is_same_place : StreamPlace → StreamPlace → Bool
is_same_place p q = (p.body_sid == q.body_sid) && (p.offset == q.offset)

-- Another place was seen before.
abbrev pub is_other_place : Option StreamPlace → StreamPlace → Bool
is_other_place None p = false
is_other_place (Some q) p = not (is_same_place q p)

-- The place that all of some are, and one that was seen before.
abbrev pub only_place : Option StreamPlace → List StreamPlace → Result StreamPlace UnitStanding
only_place seen [] = ok_or seen standings.NotIndexed
only_place seen (p ∷ places) = if is_other_place seen p then Err standings.Ambiguous else only_place (Some p) places

-- The place of a unit, if the segments that give one agree.
abbrev pub place_of : List SegmentAtParts → ℕ → Result StreamPlace UnitStanding
place_of segments unit = only_place None (filter_map (place_in unit) segments)

-- A segment gives the unit the place.
abbrev pub gives : StreamPlace → ℕ → SegmentAtParts → Bool
gives p unit s = option_map_or (is_same_place p) (place_in unit s) false

-- One of some segments does.
abbrev pub is_given : StreamPlace → ℕ → List SegmentAtParts → Bool
is_given p unit segments = list_any (gives p unit) segments

-- The places of the units that a segment lists, each by an entry.
unfoldable pub listed_in : SegmentAtParts → List StreamPlace
listed_in s =
    filter_map (λ unit. place_in unit s)
    (range_with_len (unsigned_abs s.segment.numbers.start) (entry_count s.segment))

-- The first place above an offset that a segment gives whose units all have one size.
unfoldable pub sized_above : ℕ → SegmentAtParts → Option StreamPlace
sized_above offset s =
    let n = s.segment.numbers in
    if is_constant n then place_in (max (unsigned_abs n.start) (offset / n.unit_bytes + 1)) s else None

-- The places that segments give; of those above an offset that a segment of units of one size gives, only the first.
abbrev pub places_above : ℕ → List SegmentAtParts → List StreamPlace
places_above offset segments = flat_map listed_in segments ++ filter_map (sized_above offset) segments

-- The offsets of places in a stream.
abbrev pub offset_in : ℕ → StreamPlace → Option ℕ
offset_in body_sid p = if p.body_sid == body_sid then Some p.offset else None

abbrev pub offsets_in : ℕ → List StreamPlace → List ℕ
offsets_in body_sid places = filter_map (offset_in body_sid) places

-- The lesser of two numbers, if there are any.
abbrev pub lesser : Option ℕ → Option ℕ → Option ℕ
lesser None y = y
lesser (Some x) None = Some x
lesser (Some x) (Some y) = Some (min x y)

-- The least of numbers above another.
abbrev pub least_above : ℕ → List ℕ → Option ℕ
least_above low [] = None
least_above low (x ∷ xs) = lesser (if nat_lt low x then Some x else None) (least_above low xs)

-- The offset of a place in a stream, if it lies above another.
abbrev pub offset_above : ℕ → ℕ → StreamPlace → Option ℕ
offset_above body_sid low p = if nat_lt low p.offset then offset_in body_sid p else None

-- The next place after an offset in a stream.
abbrev pub next_of : List SegmentAtParts → ℕ → ℕ → Option ℕ
next_of segments body_sid offset = least_above offset (offsets_in body_sid (places_above offset segments))

-- The numbers that place a unit in a segment are small: those of segments whose units all have one size are the
-- greatest.
abbrev pub IsSmall : StreamPlace → Type 0
IsSmall p = p.offset < 2 ^ 96

-- Places, each once, in their order.
abbrev pub in_order : List StreamPlace → List StreamPlace
in_order places = union place_cmp [] places

abbrev pub is_same_entry : IndexEntry → IndexEntry → Bool
is_same_entry d e =
    int_eq d.temporal_offset e.temporal_offset && int_eq d.key_frame_offset e.key_frame_offset && (d.flags == e.flags)

-- Another entry was seen before.
abbrev pub is_other_entry : Option IndexEntry → IndexEntry → Bool
is_other_entry None e = false
is_other_entry (Some d) e = not (is_same_entry d e)

-- The entry that all of some are, and one that was seen before.
abbrev pub only_entry : Option IndexEntry → List IndexEntry → Option IndexEntry
only_entry seen [] = seen
only_entry seen (e ∷ entries) = if is_other_entry seen e then None else only_entry (Some e) entries

-- The entry of a unit, if the segments that list it agree on it.
abbrev pub entry_of : List SegmentAtParts → ℕ → Option IndexEntry
entry_of segments unit = only_entry None (filter_map (λ s. index_entry s.segment unit) segments)
