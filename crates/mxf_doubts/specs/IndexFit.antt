-- Index table segments as partitions count them (ST 377-1: IndexByteCount counts from the first segment to the end of the last
-- one's trailing fill; what is in doubt is this project's profile).
use Rattle.std.specs.Prelude.{◌≡◌, ◌↔◌, ℕ, ◌+◌, Bool, true, false, ◌&&◌, ◌||◌, ◌==◌, not, nat_le, nat_lt, if◌then◌else◌, Option, Some}
use Rattle.std.specs.Prelude.{List, find, filter}
use Rattle.std.specs.List.{list_all, list_any, range_with_len}
use Rattle.std.specs.Option.{option_and_then, option_map_or}
use Rattle.mxf_klv.specs.Parts.{NoteParts}
use Rattle.mxf_klv.specs.Note.{end_of}
use Rattle.mxf_klv.specs.Kind.{kind_of}
use Rattle.mxf_catalogue.specs.Disputes.{clear_notes}
use Rattle.mxf_catalogue.specs.declared.run.Run.{Run}
use Rattle.mxf_catalogue.specs.Runs.{LiesIn}
use Rattle.mxf_views.specs.Copies.{is_fill}
use Rattle.mxf_views.specs.Labels.{is_in_zone}
use Rattle.mxf_views.specs.Partitions.{PartitionParts}
use Rattle.mxf_views.specs.Places.{SegmentAtParts, is_segment, segments_of}
use Rattle.mxf_places.specs.Claims.{behind_metadata, over_fills}
use Rattle.mxf_doubts.specs.Strange.{is_dark}

-- A packet that index tables don't have: no segment, no fill, and no dark data.
unfoldable pub is_foreign : List NoteParts → NoteParts → Bool
is_foreign notes n = not (is_segment (kind_of n.key)) && not (is_fill (kind_of n.key)) && not (is_dark notes n)

-- Such a clear packet lies wholly in so many bytes from an offset on.
abbrev pub has_foreign : List NoteParts → ℕ → ℕ → Bool
has_foreign notes start bytes =
    list_any (λ n. is_in_zone n bytes (Some start)) (filter (is_foreign notes) (clear_notes notes))

-- The byte at the offset is one of the packet's.
abbrev pub has_byte : ℕ → NoteParts → Bool
has_byte x n = nat_le n.offset x && nat_lt x (end_of n)

-- It is one of a clear packet's.
abbrev pub is_clear_at : List NoteParts → ℕ → Bool
is_clear_at notes x = list_any (has_byte x) (clear_notes notes)

-- Clear packets fill so many bytes from an offset on.
abbrev pub are_filled : List NoteParts → ℕ → ℕ → Bool
are_filled notes start bytes = list_all (is_clear_at notes) (range_with_len start bytes)

-- A clear packet begins before the offset and ends behind it.
abbrev pub is_cut_at : List NoteParts → ℕ → Bool
is_cut_at notes x = list_any (λ n. nat_lt n.offset x && nat_lt x (end_of n)) (clear_notes notes)

-- A clear segment begins there.
abbrev pub begins_segment : List NoteParts → ℕ → Bool
begins_segment notes x = list_any (λ n. (n.offset == x) && is_segment (kind_of n.key)) (clear_notes notes)

-- The segment begins in the bytes from one offset up to another.
abbrev pub begins_in : ℕ → ℕ → SegmentAtParts → Bool
begins_in start end s = nat_le start s.offset && nat_lt s.offset end

-- Some readable segment begins in the bytes.
abbrev pub has_segment : List NoteParts → ℕ → ℕ → Bool
has_segment notes start end = list_any (begins_in start end) (segments_of notes)

-- One of the IndexSID does.
abbrev pub has_own : List NoteParts → ℕ → ℕ → ℕ → Bool
has_own notes index_sid start end =
    list_any (λ s. (s.segment.numbers.index_sid == index_sid) && begins_in start end s) (segments_of notes)

-- Where the bytes end, a packet goes on or a segment follows; or the readable segments in them are all of other IndexSIDs.
abbrev pub is_counted_wrong : List NoteParts → ℕ → ℕ → ℕ → Bool
is_counted_wrong notes index_sid start end =
    (is_cut_at notes end || begins_segment notes end)
    || (has_segment notes start end && not (has_own notes index_sid start end))

-- So many bytes from a segment on aren't those of the segments of the IndexSID.
abbrev pub is_miscounted : List NoteParts → ℕ → ℕ → ℕ → Bool
is_miscounted notes index_sid start bytes =
    has_foreign notes start bytes
    || (are_filled notes start bytes && is_counted_wrong notes index_sid start (start + bytes))

-- The packet behind the header metadata of a partition doesn't fit the partition's IndexByteCount and IndexSID.
abbrev pub is_unfit : List NoteParts → PartitionParts → NoteParts → Bool
is_unfit notes p n =
    let bytes = p.pack.numbers.index_byte_count in
    if is_segment (kind_of n.key)
    then (bytes == 0) || is_miscounted notes p.pack.numbers.index_sid n.offset bytes
    else not (bytes == 0) && not (is_dark notes n)

-- The clear packet behind the header metadata of a partition and the fills that follow them.
abbrev pub first_behind : List NoteParts → PartitionParts → Option NoteParts
first_behind notes p =
    option_and_then (λ begin. find (λ n. n.offset == over_fills notes begin) (clear_notes notes)) (behind_metadata notes p)

-- The packet is there and doesn't fit.
unfoldable pub is_index_misfit : List NoteParts → PartitionParts → Bool
is_index_misfit notes p = option_map_or (is_unfit notes p) (first_behind notes p) false

-- The runs have the offsets of the bytes of clear packets.
abbrev pub AreClear : List NoteParts → List Run → Type 0
AreClear notes runs = (x : ℕ) → LiesIn runs x ↔ (is_clear_at notes x ≡ true)

-- The IndexSID of a segment, and where it begins.
abbrev pub own_pair : SegmentAtParts → ℕ × ℕ
own_pair s = (s.segment.numbers.index_sid, s.offset)
