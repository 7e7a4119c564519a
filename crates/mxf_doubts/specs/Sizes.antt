-- The sizes of edit units that index table segments state (ST 377-1, Edit Unit Byte Count).
use Rattle.std.specs.Prelude.{ℕ, Bool, true, ◌&&◌, ◌==◌, nat_lt, not, Option}
use Rattle.std.specs.Option.{option_map_or}
use Rattle.std.specs.Ordering.{nat_cmp, ordering_then}
use Rattle.std.specs.declared.cmp.Ordering.{Ordering}
use Rattle.mxf_sets.specs.declared.segment.numbers.SegmentNumbers.{SegmentNumbers}
use Rattle.mxf_sets.specs.Segment.{is_constant}
use Rattle.mxf_views.specs.Places.{SegmentAtParts}

-- The IndexSID and the BodySID of a segment, and the size that it states of its units: 0 where it lists them.
abbrev pub size_of : SegmentNumbers → ℕ × ℕ × ℕ
size_of n = (n.index_sid, n.body_sid, n.unit_bytes)

abbrev pub size_in : SegmentAtParts → ℕ × ℕ × ℕ
size_in s = size_of s.segment.numbers

-- Sizes go by IndexSID, then by BodySID, then by the bytes.
abbrev pub size_cmp : ℕ × ℕ × ℕ → ℕ × ℕ × ℕ → Ordering
size_cmp a b = ordering_then (ordering_then (nat_cmp a.0 b.0) (nat_cmp a.1 b.1)) (nat_cmp a.2 b.2)

-- The size is one of the index and the stream of another, and greater; and below an end, if there is one.
abbrev pub is_between : ℕ × ℕ × ℕ → Option ℕ → ℕ × ℕ × ℕ → Bool
is_between low end t =
    (t.0 == low.0) && ((t.1 == low.1) && (nat_lt low.2 t.2 && option_map_or (λ e. nat_lt t.2 e) end true))

-- The segment is one of units of one size, of the index and the stream, and of another size.
abbrev pub is_other_than : ℕ → ℕ → ℕ → SegmentAtParts → Bool
is_other_than index_sid body_sid bytes t =
    let m = t.segment.numbers in
    is_constant m && (m.index_sid == index_sid) && (m.body_sid == body_sid) && not (m.unit_bytes == bytes)
