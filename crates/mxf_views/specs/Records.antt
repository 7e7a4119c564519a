-- The records of packets whose value is kept and can be read (ST 377-1; what is kept is this project's profile).
use Rattle.std.specs.Prelude.{if◌then◌else◌, List, ℕ, length, Option, None, Result}
use Rattle.std.specs.Result.{result_ok}
use Rattle.mxf_klv.specs.Kind.{kind_of}
use Rattle.mxf_klv.specs.Note.{keeps}
use Rattle.mxf_klv.specs.Parts.{PacketParts}
use Rattle.mxf_sets.specs.Batch.{BatchParts}
use Rattle.mxf_sets.specs.PackReadings.{pack_at, primer_at, rip_at}
use Rattle.mxf_sets.specs.PartitionPack.{PartitionPackParts}
use Rattle.mxf_sets.specs.RandomIndexPack.{RipParts}
use Rattle.mxf_sets.specs.Segment.{SegmentParts, segment_at}
use Rattle.mxf_views.specs.Copies.{is_primer}
use Rattle.mxf_views.specs.Places.{is_segment}
use Rattle.mxf_views.specs.RandomIndex.{is_rip}

-- What the packet's value is by a reading, if it is one that is kept and the reading has no fault.
abbrev pub value_as : {A E : Type 0} → (List ℕ → Result A E) → PacketParts → Option A
value_as read p = if keeps p.key (length p.value) then result_ok (read p.value) else None

-- The partition pack (ST 377-1, Partition Pack).
unfoldable pub read_pack : PacketParts → Option PartitionPackParts
read_pack p = value_as (pack_at (kind_of p.key)) p

-- The entries of the primer pack (ST 377-1, Primer Pack).
abbrev pub read_primer : PacketParts → Option BatchParts
read_primer p = if is_primer (kind_of p.key) then value_as primer_at p else None

-- The index table segment (ST 377-1, Index Table Segment).
unfoldable pub read_segment : PacketParts → Option SegmentParts
read_segment p = if is_segment (kind_of p.key) then value_as segment_at p else None

-- The random index pack, whose last number counts the bytes of its length too (ST 377-1, Random Index Pack).
unfoldable pub read_rip : PacketParts → Option RipParts
read_rip p = if is_rip (kind_of p.key) then value_as (rip_at p.width) p else None
