-- Index table segments, and the places that they give for an edit unit (ST 377-1, Index Table Segment; what stands if
-- segments disagree is this project's profile). They go by the clear notes alone.
use Rattle.std.specs.Prelude.{◌≡◌, ℕ, ◌<◌, ◌==◌, ◌⊎◌, Bool, true, false, IsTrue, if◌then◌else◌, Option, Some, None, Ok}
use Rattle.std.specs.Prelude.{List, [], ◌∷◌}
use Rattle.std.specs.Option.{option_map}
use Rattle.std.specs.List.{filter_map}
use Rattle.std.specs.Ordering.{nat_cmp, on, then_cmp}
use Rattle.std.specs.declared.cmp.Ordering.{Ordering}
use Rattle.mxf_klv.specs.declared.kinds.Kind.{Kind}
use Rattle.mxf_klv.specs.declared.kinds.Kind.TheVariants as kinds
use Rattle.mxf_klv.specs.Parts.{NoteParts}
use Rattle.mxf_klv.specs.Note.{keeps_value}
use Rattle.mxf_klv.specs.Kind.{kind_of}
use Rattle.mxf_klv.specs.Rising.{In, union}
use Rattle.mxf_sets.specs.Segment.{SegmentParts, segment_at, segment_parts}
use Rattle.mxf_sets.specs.Offset.{stream_offset}
use Rattle.mxf_sets.specs.Readable.{read_as}
use Rattle.mxf_catalogue.specs.Disputes.{IsClear, clear_notes}
use Rattle.mxf_views.specs.declared.index.place.StreamPlace.{StreamPlace}
use Rattle.mxf_views.specs.Rises.{RiseBy}
use Rattle.mxf_views.specs.declared.index.place.Place.{Place}
use Rattle.mxf_views.specs.declared.index.place.Place.TheVariants.{NotIndexed, At, Ambiguous}

-- The greatest edit unit that can be asked for: segments state theirs as signed numbers of eight bytes.
abbrev pub greatest_unit : ℕ
greatest_unit = 9223372036854775807

-- A segment, and where its packet begins.
pub record SegmentAtParts : Type 0 where
  pub offset : ℕ
  pub segment : SegmentParts

abbrev pub is_segment : Kind → Bool
is_segment kinds.Segment = true
is_segment _ = false

-- The segment of a note, if it is a readable index table segment: its value is kept and is one.
abbrev pub segment_by_kind : NoteParts → Option SegmentParts
segment_by_kind n = if is_segment (kind_of n.key) then read_as segment_at n else None

-- The same, with the offset of the note.
unfoldable pub placed_segment : NoteParts → Option SegmentAtParts
placed_segment n = option_map (λ segment. record { offset = n.offset; segment = segment }) (segment_by_kind n)

abbrev pub segments_among : List NoteParts → List SegmentAtParts
segments_among notes = filter_map placed_segment notes

-- The segment without its entries: what it states in numbers, and where it stands.
abbrev pub without_entries : SegmentAtParts → SegmentAtParts
without_entries s = record { offset = s.offset; segment = segment_parts s.segment.numbers [] }

-- The segments: the clear readable index table segments.
unfoldable pub segments_of : List NoteParts → List SegmentAtParts
segments_of notes = segments_among (clear_notes notes)

abbrev pub in_stream : SegmentAtParts → ℕ → StreamPlace
in_stream s offset = record { body_sid = s.segment.numbers.body_sid; offset = offset }

-- The place that a segment gives a unit, if it covers the unit: an offset in the essence stream of its BodySID.
abbrev pub place_in : ℕ → SegmentAtParts → Option StreamPlace
place_in unit s = option_map (in_stream s) (stream_offset s.segment unit)

-- The same, if the segment is one of the IndexSID.
unfoldable pub given_by : ℕ → ℕ → SegmentAtParts → Option StreamPlace
given_by index_sid unit s = if s.segment.numbers.index_sid == index_sid then place_in unit s else None

-- By BodySID, then by offset.
abbrev pub place_cmp : StreamPlace → StreamPlace → Ordering
place_cmp = then_cmp (on (λ p. p.body_sid) nat_cmp) (on (λ p. p.offset) nat_cmp)

-- Places with those that the segments give, as a list that rises.
abbrev pub places_with : List StreamPlace → ℕ → ℕ → List SegmentAtParts → List StreamPlace
places_with places index_sid unit segments = union place_cmp places (filter_map (given_by index_sid unit) segments)

-- None, the only one, or the two least.
abbrev pub place_by : List StreamPlace → Place
place_by [] = NotIndexed
place_by (p ∷ []) = At p.body_sid p.offset
place_by (p ∷ q ∷ places) = Ambiguous p q

-- Where the segments of an IndexSID put a unit.
abbrev pub place_of : List SegmentAtParts → ℕ → ℕ → Place
place_of segments index_sid unit = place_by (places_with [] index_sid unit segments)

-- The segment is that of a clear readable index table segment.
pub record IsSegmentAt (notes : List NoteParts) (s : SegmentAtParts) : Type 0 where
  pub note : NoteParts
  pub clear : IsClear note notes
  pub kind : kind_of note.key ≡ kinds.Segment
  pub kept : IsTrue (keeps_value note)
  pub read : segment_at note.held ≡ Ok s.segment
  pub offset : s.offset ≡ note.offset

-- Each stands below all later ones.
abbrev pub SegmentsRise : List SegmentAtParts → Type 0
SegmentsRise segments = RiseBy (λ s. s.offset) segments

-- One of the segments is of the IndexSID, and gives the place for the unit.
pub record IsGiven (segments : List SegmentAtParts) (index_sid unit : ℕ) (p : StreamPlace) : Type 0 where
  pub by : SegmentAtParts
  pub held : In by segments
  pub index : by.segment.numbers.index_sid ≡ index_sid
  pub body : by.segment.numbers.body_sid ≡ p.body_sid
  pub offset : stream_offset by.segment unit ≡ Some p.offset

-- The BodySID is below that of the other place, or they are equal and the offset is below.
abbrev pub IsBelow : StreamPlace → StreamPlace → Type 0
IsBelow p q = (p.body_sid < q.body_sid) ⊎ ((p.body_sid ≡ q.body_sid) × (p.offset < q.offset))

-- The place of these numbers is given, and no other.
pub record IsOnlyPlace (segments : List SegmentAtParts) (index_sid unit body_sid offset : ℕ) : Type 0 where
  pub given : IsGiven segments index_sid unit record { body_sid = body_sid; offset = offset }
  pub only : (p : StreamPlace) → IsGiven segments index_sid unit p → (p.body_sid ≡ body_sid) × (p.offset ≡ offset)

-- Both are given, the first is below the second, and the second is below all other places that are given.
pub record AreTwoLeast (segments : List SegmentAtParts) (index_sid unit : ℕ) (p q : StreamPlace) : Type 0 where
  pub first : IsGiven segments index_sid unit p
  pub second : IsGiven segments index_sid unit q
  pub below : IsBelow p q
  pub least : (r : StreamPlace) → IsGiven segments index_sid unit r → (r ≡ p) ⊎ ((r ≡ q) ⊎ IsBelow q r)

-- No place is given for the unit, or one alone, or more.
abbrev pub IsPlace : List SegmentAtParts → ℕ → ℕ → Place → Type 0
IsPlace segments index_sid unit NotIndexed = (p : StreamPlace) → ¬ IsGiven segments index_sid unit p
IsPlace segments index_sid unit (At body_sid offset) = IsOnlyPlace segments index_sid unit body_sid offset
IsPlace segments index_sid unit (Ambiguous p q) = AreTwoLeast segments index_sid unit p q
