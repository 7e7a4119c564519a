-- Which indexes there are, by their IndexSIDs (ST 377-1, Index Table Segment and Partition Pack).
use Rattle.std.specs.Prelude.{◌≡◌, ℕ, ◌<◌, Bool, ◌&&◌, ◌==◌, nat_lt, not, if◌then◌else◌, Option, None, Some, List, []}
use Rattle.std.specs.Prelude.{filter, map}
use Rattle.std.specs.List.{filter_map, list_any}
use Rattle.std.specs.Ordering.{nat_cmp}
use Rattle.mxf_klv.specs.Parts.{NoteParts}
use Rattle.mxf_klv.specs.Rising.{In, union}
use Rattle.mxf_views.specs.Partitions.{PartitionParts, partitions_of}
use Rattle.mxf_views.specs.Places.{SegmentAtParts, segments_of}

-- A segment has the IndexSID.
abbrev pub HasSegment : List NoteParts → ℕ → Type 0
HasSegment notes sid = (s : SegmentAtParts) × In s (segments_of notes) × (s.segment.numbers.index_sid ≡ sid)

-- A partition says that it has bytes of index table segments, and names the IndexSID for them, which isn't 0.
pub record IsNamedIndex (notes : List NoteParts) (sid : ℕ) : Type 0 where
  pub by : PartitionParts
  pub partition : In by (partitions_of notes)
  pub bytes : 0 < by.pack.numbers.index_byte_count
  pub named : by.pack.numbers.index_sid ≡ sid
  pub some : 0 < sid

-- The same as lists. Laws tie them to the relations.

-- The IndexSIDs that segments have, each once, rising.
unfoldable pub index_sids_of : List NoteParts → List ℕ
index_sids_of notes = union nat_cmp [] (map (λ s. s.segment.numbers.index_sid) (segments_of notes))

-- The IndexSID that a partition names for its index table segments.
abbrev pub index_sid_named : PartitionParts → Option ℕ
index_sid_named p =
    let n = p.pack.numbers in
    if nat_lt 0 n.index_byte_count && nat_lt 0 n.index_sid then Some n.index_sid else None

-- A segment has the IndexSID.
abbrev pub has_segment : List NoteParts → ℕ → Bool
has_segment notes sid = list_any (λ held. held == sid) (index_sids_of notes)

-- The IndexSIDs that partitions name and no segment has, each once, rising (this project's profile).
unfoldable pub named_index_sids_of : List NoteParts → List ℕ
named_index_sids_of notes =
    union nat_cmp []
    (filter (λ sid. not (has_segment notes sid)) (filter_map index_sid_named (partitions_of notes)))
