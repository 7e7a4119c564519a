-- Well-formed files (ST 377-1, file structure; narrowed by this project's profile).
use Rattle.std.specs.Prelude.{◌≡◌, ℕ, ◌+◌, ◌≤◌, ◌<◌, Bool, true, List, [], ◌∷◌, ◌++◌, map, Some, IfSome, is_some}
use Rattle.std.specs.List.{AllByRecursion, flat_map}
use Rattle.mxf_klv.specs.declared.kinds.Kind.{Kind}
use Rattle.mxf_klv.specs.declared.kinds.Kind.TheVariants as kinds
use Rattle.mxf_klv.specs.declared.kinds.Status.{Status}
use Rattle.mxf_klv.specs.Kind.{kind_of}
use Rattle.mxf_klv.specs.Note.{greatest_end}
use Rattle.mxf_klv.specs.Packet.{IsPacket, packet_bytes, size_of}
use Rattle.mxf_klv.specs.Parts.{PacketParts}
use Rattle.mxf_klv.specs.Piece.{end_after}
use Rattle.mxf_klv.specs.Rising.{In}
use Rattle.mxf_sets.specs.PartitionPack.{IsPartitionKind}
use Rattle.mxf_sets.specs.declared.pack.random_index.RipEntry.{RipEntry}
use Rattle.mxf_views.specs.Partitions.{PartitionParts}
use Rattle.mxf_views.specs.Places.{SegmentAtParts}
use Rattle.mxf_views.specs.Reading.{partitions_read, place_by_segment, segments_read}
use Rattle.mxf_views.specs.Records.{read_pack, read_primer, read_rip, read_segment}
use Rattle.mxf_views.specs.declared.index.place.Place.{Place}

abbrev pub IsHeaderPack : PacketParts → Type 0
IsHeaderPack p = (status : Status) × (kind_of p.key ≡ kinds.Header status)

abbrev pub IsFooterPack : PacketParts → Type 0
IsFooterPack p = (status : Status) × (kind_of p.key ≡ kinds.Footer status)

abbrev pub IsPartitionPack : PacketParts → Type 0
IsPartitionPack p = IsPartitionKind (kind_of p.key)

abbrev pub IsPrimerPack : PacketParts → Type 0
IsPrimerPack p = kind_of p.key ≡ kinds.Primer

abbrev pub IsFill : PacketParts → Type 0
IsFill p = kind_of p.key ≡ kinds.Fill

abbrev pub IsRandomIndexPack : PacketParts → Type 0
IsRandomIndexPack p = kind_of p.key ≡ kinds.Rip

-- The first packet is a header partition pack, and no other is.
abbrev pub BeginsWithHeader : List PacketParts → Type 0
BeginsWithHeader [] = ⊥
BeginsWithHeader (p ∷ ps) = IsHeaderPack p × AllByRecursion (λ q. ¬ IsHeaderPack q) ps

-- Exactly one packet is a footer partition pack, and it is the last of the partition packs.
pub record EndsWithFooter (l : List PacketParts) : Type 0 where
  pub before : List PacketParts
  pub footer : PacketParts
  pub after : List PacketParts
  pub order : l ≡ before ++ footer ∷ after
  pub is_footer : IsFooterPack footer
  pub only : AllByRecursion (λ p. ¬ IsFooterPack p) before
  pub last : AllByRecursion (λ p. ¬ IsPartitionPack p) after

-- What a packet of a kind has to be read as: a partition pack, a primer, a segment or a random index pack; no other
-- kind has to be read.
abbrev pub is_readable_as : Kind → PacketParts → Bool
is_readable_as (kinds.Header status) p = is_some (read_pack p)
is_readable_as (kinds.Body status) p = is_some (read_pack p)
is_readable_as (kinds.Footer status) p = is_some (read_pack p)
is_readable_as kinds.Primer p = is_some (read_primer p)
is_readable_as kinds.Segment p = is_some (read_segment p)
is_readable_as kinds.Rip p = is_some (read_rip p)
is_readable_as _ p = true

-- A partition pack, primer, segment or random index pack is kept and can be read.
abbrev pub IsReadable : PacketParts → Type 0
IsReadable p = is_readable_as (kind_of p.key) p ≡ true

-- Each pack names the offset of the one before it, and the first the offset that is given.
abbrev pub NameTheOneBefore : ℕ → List PartitionParts → Type 0
NameTheOneBefore before [] = Unit {0}
NameTheOneBefore before (p ∷ ps) =
    (p.pack.numbers.previous_partition ≡ before) × NameTheOneBefore p.offset ps

-- How many bytes packets have.
abbrev pub total_of : List PacketParts → ℕ
total_of [] = 0
total_of (p ∷ ps) = size_of p + total_of ps

-- There are no, one or more fills, then a primer, and the packets from that primer on make up exactly that many bytes
-- before any further partition pack (ST 377-1, header metadata and HeaderByteCount).
pub record HasMetadata (bytes : ℕ) (packets : List PacketParts) : Type 0 where
  pub fills : List PacketParts
  pub primer : PacketParts
  pub sets : List PacketParts
  pub rest : List PacketParts
  pub order : packets ≡ fills ++ (primer ∷ sets ++ rest)
  pub are_fills : AllByRecursion IsFill fills
  pub is_primer : IsPrimerPack primer
  pub no_pack : AllByRecursion (λ p. ¬ IsPartitionPack p) sets
  pub exact : total_of (primer ∷ sets) ≡ bytes

-- Header metadata come after each partition pack that states some.
abbrev pub MetadataFollow : List PacketParts → Type 0
MetadataFollow [] = Unit {0}
MetadataFollow (p ∷ ps) =
    IfSome (read_pack p) (λ pack. 0 < pack.numbers.header_byte_count → HasMetadata pack.numbers.header_byte_count ps)
    × MetadataFollow ps

-- Two segments of one index that both have a place for an edit unit have the same.
abbrev pub Agree : List SegmentAtParts → Type 0
Agree segments =
    (s t : SegmentAtParts) (index_sid unit : ℕ) (p q : Place) → In s segments → In t segments
    → place_by_segment index_sid unit s.segment ≡ Some p → place_by_segment index_sid unit t.segment ≡ Some q → p ≡ q

-- The entry of a partition in a random index pack (ST 377-1, Random Index Pack).
abbrev pub entry_of : PartitionParts → RipEntry
entry_of p = record { body_sid = p.pack.numbers.body_sid; offset = p.offset }

-- There is no random index pack, or it is the last packet, and its entries are those of the partitions in order.
abbrev pub EndsWithRandomIndex : List PartitionParts → List PacketParts → Type 0
EndsWithRandomIndex partitions [] = Unit {0}
EndsWithRandomIndex partitions (p ∷ []) = IfSome (read_rip p) (λ rip. rip.entries ≡ map entry_of partitions)
EndsWithRandomIndex partitions (p ∷ q ∷ ps) = (¬ IsRandomIndexPack p) × EndsWithRandomIndex partitions (q ∷ ps)

-- A well-formed file: packets that are laid from offset 0 on, one after another, and end at or below the greatest end.
pub record IsWellFormed (l : List PacketParts) : Type 0 where
  pub packets : AllByRecursion IsPacket l
  pub within : end_after 0 l ≤ greatest_end
  pub header : BeginsWithHeader l
  pub footer : EndsWithFooter l
  pub readable : AllByRecursion IsReadable l
  pub this : AllByRecursion (λ p. p.pack.numbers.this_partition ≡ p.offset) (partitions_read 0 l)
  pub previous : NameTheOneBefore 0 (partitions_read 0 l)
  pub metadata : MetadataFollow l
  pub index : Agree (segments_read 0 l)
  pub random_index : EndsWithRandomIndex (partitions_read 0 l) l

-- The bytes of a file: those of its packets, one after another (ST 336, KLV triplet).
abbrev pub file_bytes : List PacketParts → List ℕ
file_bytes l = flat_map packet_bytes l
