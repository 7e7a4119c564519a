-- What the views keep of a note, by its kind (this project's profile).
use Rattle.std.specs.Prelude.{ℕ, Option, Some, None}
use Rattle.std.specs.Option.{option_map}
use Rattle.mxf_klv.specs.declared.kinds.Kind.{Kind}
use Rattle.mxf_klv.specs.declared.kinds.Kind.TheVariants as kinds
use Rattle.mxf_klv.specs.Kind.{kind_of}
use Rattle.mxf_klv.specs.Parts.{NoteParts}
use Rattle.mxf_views.specs.Kept.{kept_segment}
use Rattle.mxf_views.specs.Partitions.{PartitionParts, in_numbers, partition_at}
use Rattle.mxf_views.specs.Places.{SegmentAtParts}
use Rattle.mxf_views.specs.declared.kept.noted.Kept.{Kept}
use Rattle.mxf_views.specs.declared.kept.noted.Kept.TheVariants.{Partition, RandomIndexPack, Segment, UnreadablePack}

-- Of a partition pack: the partition, or its offset if it isn't readable.
abbrev pub kept_pack : NoteParts → Option PartitionParts → Kept
kept_pack n None = UnreadablePack n.offset
kept_pack n (Some p) = Partition (in_numbers p)

-- What is kept of a note of a kind, by the partition and the segment that it is.
abbrev pub kept_by_kind : Kind → NoteParts → Option PartitionParts → Option SegmentAtParts → Option Kept
kept_by_kind (kinds.Header _) n partition segment = Some (kept_pack n partition)
kept_by_kind (kinds.Body _) n partition segment = Some (kept_pack n partition)
kept_by_kind (kinds.Footer _) n partition segment = Some (kept_pack n partition)
kept_by_kind kinds.Segment n partition segment = option_map Segment segment
kept_by_kind kinds.Rip n partition segment = Some (RandomIndexPack n.offset)
kept_by_kind _ n partition segment = None

-- What is kept of the note.
unfoldable pub kept_note : NoteParts → Option Kept
kept_note n = kept_by_kind (kind_of n.key) n (partition_at n) (kept_segment n)

-- The partition, the segment, the offset of a random index pack, or that of an unreadable partition pack.
abbrev pub partition_in : Option Kept → Option PartitionParts
partition_in (Some (Partition p)) = Some p
partition_in _ = None

abbrev pub segment_in : Option Kept → Option SegmentAtParts
segment_in (Some (Segment s)) = Some s
segment_in _ = None

abbrev pub random_index_pack_in : Option Kept → Option ℕ
random_index_pack_in (Some (RandomIndexPack offset)) = Some offset
random_index_pack_in _ = None

abbrev pub unreadable_pack_in : Option Kept → Option ℕ
unreadable_pack_in (Some (UnreadablePack offset)) = Some offset
unreadable_pack_in _ = None
