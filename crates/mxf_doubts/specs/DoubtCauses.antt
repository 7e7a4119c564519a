-- What each code of a doubt says of the notes (this project's profile).
use Rattle.std.specs.Prelude.{◌≡◌, ◌≢◌, ℕ, ◌+◌, ◌-◌, ◌^◌, ◌<◌, ◌≤◌, ◌⊎◌, IsTrue, true, Some, Ok, List, [], ◌∷◌, length, take, drop}
use Rattle.mxf_klv.specs.declared.kinds.Kind.TheVariants as kinds
use Rattle.mxf_klv.specs.Parts.{NoteParts}
use Rattle.mxf_klv.specs.Note.{end_of}
use Rattle.mxf_klv.specs.Kind.{kind_of}
use Rattle.mxf_klv.specs.Rising.{In}
use Rattle.mxf_sets.specs.Batch.{BatchParts, batch_items}
use Rattle.mxf_sets.specs.Fields.{is_batch}
use Rattle.mxf_sets.specs.Instance.{instance_uid_at}
use Rattle.mxf_sets.specs.Items.{ItemParts}
use Rattle.mxf_sets.specs.PackReadings.{batch_in}
use Rattle.mxf_sets.specs.Primer.{IsOnlyLabel}
use Rattle.mxf_catalogue.specs.Disputes.{IsClear}
use Rattle.mxf_views.specs.declared.copy.CopyInfo.{CopyInfo}
use Rattle.mxf_views.specs.Copies.{IsCopy, IsSetKind}
use Rattle.mxf_views.specs.Labels.{primer_of}
use Rattle.mxf_views.specs.Partitions.{PartitionParts, partitions_of}
use Rattle.mxf_views.specs.Places.{IsOnlyPlace, SegmentAtParts, segments_of}
use Rattle.mxf_places.specs.Held.{IsEndOfFile}
use Rattle.mxf_places.specs.Named.{IsBehindMetadata, IsOver}
use Rattle.mxf_sets.specs.declared.pack.random_index.RipEntry.{RipEntry}
use Rattle.mxf_sets.specs.declared.segment.numbers.SegmentNumbers.{SegmentNumbers}
use Rattle.mxf_sets.specs.Offset.{index_entry, stream_offset}
use Rattle.mxf_sets.specs.declared.segment.offset.IndexEntry.{IndexEntry}
use Rattle.mxf_sets.specs.Segment.{SegmentParts}
use Rattle.mxf_units.specs.Limits.{IsClipWrapped, IsEssenceZone, IsFirstPacket}
use Rattle.mxf_units.specs.Standings.{AllHeld, IsLast, IsZone}
use Rattle.mxf_units.specs.declared.essence_zone.EssenceZone.{EssenceZone}
use Rattle.mxf_views.specs.RandomIndex.{RipAtParts}
use Rattle.mxf_views.specs.RandomIndexView.{rip_view_of}
use Rattle.mxf_views.specs.declared.random_index.RipView.TheVariants.{One}
use Rattle.mxf_views.specs.declared.random_index.Standing.{Standing}
use Rattle.mxf_views.specs.declared.random_index.Standing.TheVariants.{Held}
use Rattle.mxf_views.specs.Readings.{IsReadAs}
use Rattle.mxf_views.specs.SetItems.{IsMadeUpOf}
use Rattle.mxf_doubts.specs.declared.doubt.Code.{Code}
use Rattle.mxf_doubts.specs.declared.doubt.Code.TheVariants.{G01, G02, G03, G04, G06, G07, G08, G09, G10, G11}
use Rattle.mxf_doubts.specs.declared.doubt.Doubt.{Doubt}
use Rattle.mxf_doubts.specs.Classes.{IsMisfit}
use Rattle.mxf_doubts.specs.Header.{is_batch_tag, is_reference_tag}
use Rattle.mxf_doubts.specs.Sound.{IsInSoundZone}
use Rattle.mxf_doubts.specs.Strange.{IsLone, bare_key, named_keys}

-- ---- Strange packets

-- Byte 7 of the key, the structure of what its register names, is 1.
abbrev pub HasStructure1 : List ℕ → Type 0
HasStructure1 key = take 1 (drop 6 key) ≡ 0x01 ∷ []

-- The packet is of no known kind, no other has its key but for the version, and no standard names the key; or the packet is
-- an essence element or a raw set whose key has another structure.
pub data IsStrange (notes : List NoteParts) (n : NoteParts) : Type 0 where
  unknown : kind_of n.key ≡ kinds.Other → IsLone notes n → (In (bare_key n.key) named_keys → ⊥) → IsStrange notes n
  essence : kind_of n.key ≡ kinds.Essence → (HasStructure1 n.key → ⊥) → IsStrange notes n
  raw_set : kind_of n.key ≡ kinds.RawSet → (HasStructure1 n.key → ⊥) → IsStrange notes n

-- Of no known kind, not strange, and by no key of the essence containers (bytes 9 to 12, ST 379).
pub record IsDark (notes : List NoteParts) (n : NoteParts) : Type 0 where
  pub kind : kind_of n.key ≡ kinds.Other
  pub usual : IsStrange notes n → ⊥
  pub outside : take 4 (drop 8 n.key) ≢ 0x0D ∷ 0x01 ∷ 0x03 ∷ 0x01 ∷ []

-- A finished copy begins with the packet.
pub record IsFirstPrimer (notes : List NoteParts) (n : NoteParts) : Type 0 where
  pub kind : kind_of n.key ≡ kinds.Primer
  pub copy : CopyInfo
  pub copied : IsCopy notes copy
  pub finished : copy.finished ≡ true
  pub begins : copy.start ≡ Some n.offset

-- Header metadata have such a packet.
pub data IsOfHeader (notes : List NoteParts) (n : NoteParts) : Type 0 where
  a_set : IsSetKind (kind_of n.key) → IsOfHeader notes n
  a_fill : kind_of n.key ≡ kinds.Fill → IsOfHeader notes n
  an_unknown : kind_of n.key ≡ kinds.Other → IsOfHeader notes n
  a_primer : IsFirstPrimer notes n → IsOfHeader notes n

-- ---- Tracks

-- A clear raw set in the zone of a finished copy has the number as that of a track: four bytes, not all zero.
pub record NamesTrack (notes : List NoteParts) (number : List ℕ) : Type 0 where
  pub set : NoteParts
  pub clear : IsClear set notes
  pub kind : kind_of set.key ≡ kinds.RawSet
  pub sound : IsInSoundZone notes set
  pub items : List ItemParts
  pub made : IsMadeUpOf set items
  pub item : ItemParts
  pub has : In item items
  pub tag : item.tag ≡ 0x4804
  pub value : item.value ≡ number
  pub four : length number ≡ 4
  pub some : number ≢ 0x00 ∷ 0x00 ∷ 0x00 ∷ 0x00 ∷ []

-- ---- Orderly copies

-- The note is clear, and lies wholly in the bytes of the copy.
pub record IsOfCopy (notes : List NoteParts) (c : CopyInfo) (start : ℕ) (n : NoteParts) : Type 0 where
  pub clear : IsClear n notes
  pub from : start ≤ n.offset
  pub before : end_of n ≤ start + c.bytes

-- A primer at the start of a copy, a set, a fill, or of no known kind.
pub data IsOrderlyNote (start : ℕ) (n : NoteParts) : Type 0 where
  its_primer : kind_of n.key ≡ kinds.Primer → n.offset ≡ start → IsOrderlyNote start n
  its_set : IsSetKind (kind_of n.key) → IsOrderlyNote start n
  its_fill : kind_of n.key ≡ kinds.Fill → IsOrderlyNote start n
  its_unknown : kind_of n.key ≡ kinds.Other → IsOrderlyNote start n

-- A finished copy of which each packet is such.
pub record IsOrderly (notes : List NoteParts) (c : CopyInfo) (start : ℕ) : Type 0 where
  pub copied : IsCopy notes c
  pub finished : c.finished ≡ true
  pub begins : c.start ≡ Some start
  pub each : (n : NoteParts) → IsOfCopy notes c start n → IsOrderlyNote start n

-- A set of the copy.
abbrev pub IsSetIn : List NoteParts → CopyInfo → ℕ → NoteParts → Type 0
IsSetIn notes c start n = IsOfCopy notes c start n × IsSetKind (kind_of n.key)

-- The set has an item with a dynamic tag, 8000 or above, that has not exactly one label in the primer pack.
pub record LacksLabel (primer : BatchParts) (n : NoteParts) : Type 0 where
  pub items : List ItemParts
  pub made : IsMadeUpOf n items
  pub item : ItemParts
  pub has : In item items
  pub dynamic : 0x8000 ≤ item.tag
  pub none : (label : List ℕ) → IsOnlyLabel item.tag primer label → ⊥

-- ---- References

-- An item holds a reference: the item is one, or a batch of them (ST 377-1, batch).
pub data HoldsReference (i : ItemParts) (uid : List ℕ) : Type 0 where
  one : IsTrue (is_reference_tag i.tag) → length i.value ≡ 16 → i.value ≡ uid → HoldsReference i uid
  many : IsTrue (is_batch_tag i.tag) → IsTrue (is_batch 16 i.value) → In uid (batch_items (batch_in i.value))
      → HoldsReference i uid

-- The note is a set that is kept, whose items can be read, and that has the instance identifier.
pub record HasInstance (n : NoteParts) (uid : List ℕ) : Type 0 where
  pub items : List ItemParts
  pub made : IsMadeUpOf n items
  pub uid_is : IsReadAs instance_uid_at n uid

-- Each packet of the copy is a fill, a primer pack, or a set with an instance identifier.
pub record IsTold (notes : List NoteParts) (c : CopyInfo) (start : ℕ) : Type 0 where
  pub each : (n : NoteParts) → IsOfCopy notes c start n
      → (kind_of n.key ≡ kinds.Fill) ⊎ ((kind_of n.key ≡ kinds.Primer) ⊎ ((uid : List ℕ) × HasInstance n uid))

-- The set holds a reference, and no set of the copy has the identifier that the reference names.
pub record RefersToNone (notes : List NoteParts) (c : CopyInfo) (start : ℕ) (n : NoteParts) : Type 0 where
  pub items : List ItemParts
  pub made : IsMadeUpOf n items
  pub item : ItemParts
  pub has : In item items
  pub uid : List ℕ
  pub holds : HoldsReference item uid
  pub none : (m : NoteParts) → IsSetIn notes c start m → HasInstance m uid → ⊥

-- ---- Index table segments

-- Each byte from an offset up to an end is one of a clear packet.
abbrev pub AreFilled : List NoteParts → ℕ → ℕ → Type 0
AreFilled notes start end =
    (x : ℕ) → start ≤ x → x < end → (n : NoteParts) × IsClear n notes × (n.offset ≤ x) × (x < end_of n)

-- A packet that index tables don't have: no segment, no fill, and no dark data.
pub record IsForeign (notes : List NoteParts) (n : NoteParts) : Type 0 where
  pub no_segment : kind_of n.key ≢ kinds.Segment
  pub no_fill : kind_of n.key ≢ kinds.Fill
  pub bright : IsDark notes n → ⊥

-- The bytes from a segment up to an end aren't those of the segments of the IndexSID.
pub data IsMiscounted (notes : List NoteParts) (index_sid start end : ℕ) : Type 0 where
  has_other : (n : NoteParts) → IsClear n notes → start ≤ n.offset → end_of n ≤ end → IsForeign notes n
      → IsMiscounted notes index_sid start end
  cuts_one : AreFilled notes start end → (n : NoteParts) → IsClear n notes → n.offset < end → end < end_of n
      → IsMiscounted notes index_sid start end
  leaves_one : AreFilled notes start end → (n : NoteParts) → IsClear n notes → n.offset ≡ end
      → kind_of n.key ≡ kinds.Segment → IsMiscounted notes index_sid start end
  has_none : AreFilled notes start end → (s : SegmentAtParts) → In s (segments_of notes) → start ≤ s.offset
      → s.offset < end
      → ((o : SegmentAtParts) → In o (segments_of notes) → start ≤ o.offset → o.offset < end
      → o.segment.numbers.index_sid ≢ index_sid) → IsMiscounted notes index_sid start end

-- The packet behind the header metadata of a partition doesn't fit the partition's IndexByteCount and IndexSID.
pub data IsUnfit (notes : List NoteParts) (p : PartitionParts) (n : NoteParts) : Type 0 where
  uncounted : p.pack.numbers.index_byte_count ≡ 0 → kind_of n.key ≡ kinds.Segment → IsUnfit notes p n
  no_index : p.pack.numbers.index_byte_count ≢ 0 → kind_of n.key ≢ kinds.Segment → (IsDark notes n → ⊥)
      → IsUnfit notes p n
  miscounted : p.pack.numbers.index_byte_count ≢ 0 → kind_of n.key ≡ kinds.Segment
      → IsMiscounted notes p.pack.numbers.index_sid n.offset (n.offset + p.pack.numbers.index_byte_count)
      → IsUnfit notes p n

-- The packet behind the header metadata of a partition and the fills that follow them is clear, and doesn't fit.
pub record IsIndexMisfit (notes : List NoteParts) (p : PartitionParts) : Type 0 where
  pub begin : ℕ
  pub behind : IsBehindMetadata notes p begin
  pub first : NoteParts
  pub clear : IsClear first notes
  pub over : IsOver notes begin first.offset
  pub unfit : IsUnfit notes p first

-- A partition at the offset is such.
abbrev pub AtPartition : List NoteParts → ℕ → Type 0
AtPartition notes offset =
    (p : PartitionParts) × In p (partitions_of notes) × (p.offset ≡ offset) × IsIndexMisfit notes p

-- ---- The codes

-- A clear note at the offset is such.
abbrev pub AtClear : List NoteParts → (NoteParts → Type 0) → ℕ → Type 0
AtClear notes IsSuch offset = (n : NoteParts) × IsClear n notes × (n.offset ≡ offset) × IsSuch n

-- A finished copy of the partition at the offset has a set, and not exactly one Preface.
pub record LacksPreface (notes : List NoteParts) (offset : ℕ) : Type 0 where
  pub copy : CopyInfo
  pub copied : IsCopy notes copy
  pub there : copy.partition ≡ offset
  pub finished : copy.finished ≡ true
  pub prefaces : copy.prefaces ≢ 1
  pub start : ℕ
  pub begins : copy.start ≡ Some start
  pub set : NoteParts
  pub has : IsSetIn notes copy start set

pub record IsStrangeInside (notes : List NoteParts) (n : NoteParts) : Type 0 where
  pub sound : IsInSoundZone notes n
  pub why : IsStrange notes n ⊎ (IsOfHeader notes n → ⊥)

pub record IsStrangeOutside (notes : List NoteParts) (n : NoteParts) : Type 0 where
  pub outside : IsInSoundZone notes n → ⊥
  pub strange : IsStrange notes n

pub record IsUntracked (notes : List NoteParts) (n : NoteParts) : Type 0 where
  pub kind : kind_of n.key ≡ kinds.Essence
  pub lone : IsLone notes n
  pub some : (number : List ℕ) × NamesTrack notes number
  pub none : NamesTrack notes (drop 12 n.key) → ⊥

-- A set at the offset is one of an orderly, told copy, and refers to none of the copy's sets.
pub record IsUnreferred (notes : List NoteParts) (offset : ℕ) : Type 0 where
  pub copy : CopyInfo
  pub start : ℕ
  pub orderly : IsOrderly notes copy start
  pub told : IsTold notes copy start
  pub set : NoteParts
  pub in_copy : IsSetIn notes copy start set
  pub there : set.offset ≡ offset
  pub refers : RefersToNone notes copy start set

-- A set at the offset is the first one of an orderly copy that lacks a label.
pub record IsFirstUnlabelled (notes : List NoteParts) (offset : ℕ) : Type 0 where
  pub copy : CopyInfo
  pub start : ℕ
  pub orderly : IsOrderly notes copy start
  pub set : NoteParts
  pub in_copy : IsSetIn notes copy start set
  pub there : set.offset ≡ offset
  pub primer : BatchParts
  pub is_primer : primer_of notes copy ≡ Some primer
  pub lacks : LacksLabel primer set
  pub first : (m : NoteParts) → IsSetIn notes copy start m → m.offset < offset → LacksLabel primer m → ⊥

-- ---- The ends of streams

-- The segment gives some unit the stream offset, and none a greater one.
pub record IsLastOffset (s : SegmentParts) (offset : ℕ) : Type 0 where
  pub unit : ℕ
  pub given : stream_offset s unit ≡ Some offset
  pub greatest : (other x : ℕ) → stream_offset s other ≡ Some x → x ≤ offset

-- The essence of the last partition of a stream lies there: the other partitions of the stream begin before it, and it has a first
-- packet.
pub record IsLastZone (notes : List NoteParts) (body_sid : ℕ) (zone : EssenceZone) : Type 0 where
  pub partition : PartitionParts
  pub held : In partition (partitions_of notes)
  pub body : partition.pack.numbers.body_sid ≡ body_sid
  pub others : (q : PartitionParts) → In q (partitions_of notes) → q.pack.numbers.body_sid ≡ body_sid → q ≢ partition
      → q.pack.numbers.body_offset < partition.pack.numbers.body_offset
  pub first : NoteParts
  pub first_is : IsFirstPacket notes partition first
  pub zone_is : IsEssenceZone notes partition first zone

-- The end of the file is known, and each partition is held that the random index pack lists.
pub record ArePartitionsHeld (notes : List NoteParts) : Type 0 where
  pub end : ℕ
  pub end_is : IsEndOfFile notes end
  pub rip : RipAtParts
  pub rip_is : rip_view_of notes ≡ One rip
  pub held : (e : RipEntry × Standing) → In e rip.entries → e.1 ≡ Held

-- All segments of units of one size, of the index and the stream of one, state the size that this one states.
abbrev pub IsSizedAlike : List NoteParts → SegmentNumbers → Type 0
IsSizedAlike notes n =
    (t : SegmentAtParts) → In t (segments_of notes) → 0 < t.segment.numbers.unit_bytes
    → t.segment.numbers.index_sid ≡ n.index_sid → t.segment.numbers.body_sid ≡ n.body_sid
    → t.segment.numbers.unit_bytes ≡ n.unit_bytes

-- The last place that the segment gives lies at the limit of the last partition of its stream or behind.
pub record IsBehindEnd (notes : List NoteParts) (s : SegmentAtParts) : Type 0 where
  pub partitions : ArePartitionsHeld notes
  pub sized : 0 < s.segment.numbers.unit_bytes → IsSizedAlike notes s.segment.numbers
  pub offset : ℕ
  pub offset_is : IsLastOffset s.segment offset
  pub zone : EssenceZone
  pub zone_is : IsLastZone notes s.segment.numbers.body_sid zone
  pub limit : ℕ
  pub limit_is : zone.limit ≡ Some limit
  pub behind : limit + zone.body_offset ≤ offset + zone.origin

abbrev pub AtSegment : List NoteParts → ℕ → Type 0
AtSegment notes offset =
    (s : SegmentAtParts) × In s (segments_of notes) × (s.offset ≡ offset) × IsBehindEnd notes s

-- ---- Where units begin

-- The index is the one that is asked of the stream: some segment is of both, and none of the stream is of a lesser IndexSID.
pub record IsAskedIndex (notes : List NoteParts) (body_sid index_sid : ℕ) : Type 0 where
  pub by : SegmentAtParts
  pub held : In by (segments_of notes)
  pub body : by.segment.numbers.body_sid ≡ body_sid
  pub index : by.segment.numbers.index_sid ≡ index_sid
  pub least : (s : SegmentAtParts) → In s (segments_of notes) → s.segment.numbers.body_sid ≡ body_sid
      → index_sid ≤ s.segment.numbers.index_sid

-- A segment of the index lists the unit by an entry.
pub record IsListed (notes : List NoteParts) (index_sid unit : ℕ) : Type 0 where
  pub by : SegmentAtParts
  pub held : In by (segments_of notes)
  pub index : by.segment.numbers.index_sid ≡ index_sid
  pub entry : IndexEntry
  pub entry_is : index_entry by.segment unit ≡ Some entry

-- The segment is one of units of one size, of the index and the stream.
pub record IsSizedIn (notes : List NoteParts) (index_sid body_sid : ℕ) (s : SegmentAtParts) : Type 0 where
  pub held : In s (segments_of notes)
  pub sized : 0 < s.segment.numbers.unit_bytes
  pub index : s.segment.numbers.index_sid ≡ index_sid
  pub body : s.segment.numbers.body_sid ≡ body_sid

-- All of these state one size.
abbrev pub AreSizedAlike : List NoteParts → ℕ → ℕ → Type 0
AreSizedAlike notes index_sid body_sid =
    (s t : SegmentAtParts) → IsSizedIn notes index_sid body_sid s → IsSizedIn notes index_sid body_sid t
    → s.segment.numbers.unit_bytes ≡ t.segment.numbers.unit_bytes

-- The index that is asked of the stream puts the unit at the file offset, in the partition of the BodyOffset: all segments that
-- give the unit a place give one, by an entry or by the only size that is stated. The units of the partition don't all lie in one
-- packet, and the offset lies in the partition, as far as what is held says.
pub record IsUnitAt (notes : List NoteParts) (body_sid body_offset unit x : ℕ) : Type 0 where
  pub number : unit < 2 ^ 64
  pub index_sid : ℕ
  pub asked : IsAskedIndex notes body_sid index_sid
  pub place : ℕ
  pub placed : IsOnlyPlace (segments_of notes) index_sid unit body_sid place
  pub sized : IsListed notes index_sid unit ⊎ AreSizedAlike notes index_sid body_sid
  pub zone : EssenceZone
  pub zone_is : IsZone notes body_sid place (Ok zone)
  pub part : zone.body_offset ≡ body_offset
  pub whole : (p : PartitionParts) (n : NoteParts) → IsLast notes body_sid place p → IsFirstPacket notes p n
      → IsClipWrapped notes p n → ⊥
  pub at : x ≡ zone.origin + (place - zone.body_offset)
  pub below : (limit : ℕ) → zone.limit ≡ Some limit → x < limit
  pub sure : (zone.is_sure ≡ true) ⊎ AllHeld notes zone.origin (x + 1)

-- An essence element, or of no known kind by a key of the essence containers (bytes 9 to 12, ST 379).
abbrev pub IsInContainer : NoteParts → Type 0
IsInContainer n =
    (kind_of n.key ≡ kinds.Essence)
    ⊎ ((kind_of n.key ≡ kinds.Other) × (take 4 (drop 8 n.key) ≡ 0x0D ∷ 0x01 ∷ 0x03 ∷ 0x01 ∷ []))

-- A clear packet of an essence container begins at the offset.
pub record BeginsPacket (notes : List NoteParts) (x : ℕ) : Type 0 where
  pub packet : NoteParts
  pub clear : IsClear packet notes
  pub there : packet.offset ≡ x
  pub container : IsInContainer packet

-- The offset lies above the first byte of a clear packet of an essence container, or of a clear fill that such a packet follows.
pub record MissesPacket (notes : List NoteParts) (x : ℕ) : Type 0 where
  pub packet : NoteParts
  pub clear : IsClear packet notes
  pub above : packet.offset < x
  pub before : x < end_of packet
  pub leads : IsInContainer packet ⊎ ((kind_of packet.key ≡ kinds.Fill) × BeginsPacket notes (end_of packet))

-- A unit misses its packet there. Between it and each earlier unit of the partition that does lies one at which a packet begins.
pub record IsFirstMiss (notes : List NoteParts) (x : ℕ) : Type 0 where
  pub body_sid : ℕ
  pub body_offset : ℕ
  pub unit : ℕ
  pub lies : IsUnitAt notes body_sid body_offset unit x
  pub misses : MissesPacket notes x
  pub first : (u y : ℕ) → u < unit → IsUnitAt notes body_sid body_offset u y → MissesPacket notes y
      → (v : ℕ) × (z : ℕ) × (u < v) × (v < unit) × IsUnitAt notes body_sid body_offset v z × BeginsPacket notes z

-- The cause of the code is met at the offset.
abbrev pub IsDoubtedAt : Code → List NoteParts → ℕ → Type 0
IsDoubtedAt G01 notes offset = LacksPreface notes offset
IsDoubtedAt G02 notes offset = AtClear notes (IsStrangeInside notes) offset
IsDoubtedAt G03 notes offset = AtPartition notes offset
IsDoubtedAt G04 notes offset = IsFirstMiss notes offset
IsDoubtedAt G06 notes offset = AtClear notes (IsStrangeOutside notes) offset
IsDoubtedAt G07 notes offset = AtClear notes (IsUntracked notes) offset
IsDoubtedAt G08 notes offset = AtClear notes IsMisfit offset
IsDoubtedAt G09 notes offset = IsUnreferred notes offset
IsDoubtedAt G10 notes offset = IsFirstUnlabelled notes offset
IsDoubtedAt G11 notes offset = AtSegment notes offset

-- It is a doubt of the notes.
abbrev pub IsDoubt : List NoteParts → Doubt → Type 0
IsDoubt notes d = IsDoubtedAt d.code notes d.offset
