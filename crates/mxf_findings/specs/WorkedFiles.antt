-- Small files, packet by packet: structure alone, none that plays (ST 377-1). Their bytes stand in `WorkedBytes`.
use Rattle.std.specs.Prelude.{ℕ, true, List, [], ◌∷◌, ◌++◌, replicate, Some}
use Rattle.mxf_klv.specs.Parts.{PacketParts, packet_parts}
use Rattle.mxf_klv.specs.declared.kinds.Status.{Status}
use Rattle.mxf_klv.specs.declared.kinds.Status.TheVariants.{OpenIncomplete, ClosedComplete}
use Rattle.mxf_sets.specs.Batch.{batch_parts}
use Rattle.mxf_sets.specs.PartitionPack.{pack_bytes, pack_key, partition_pack_parts}
use Rattle.mxf_sets.specs.declared.pack.numbers.PartitionNumbers.{PartitionNumbers}
use Rattle.mxf_sets.specs.declared.pack.part.PackPart.{PackPart}
use Rattle.mxf_sets.specs.declared.pack.part.PackPart.TheVariants.{Header, Body, Footer}
use Rattle.mxf_sets.specs.declared.pack.random_index.RipEntry.{RipEntry}
use Rattle.mxf_views.specs.declared.copy.CopyInfo.{CopyInfo}
use Rattle.mxf_views.specs.declared.random_index.RipView.{RipView}
use Rattle.mxf_views.specs.declared.random_index.RipView.TheVariants.{One}
use Rattle.mxf_views.specs.declared.random_index.Standing.{Standing}
use Rattle.mxf_views.specs.declared.random_index.Standing.TheVariants.{Held}

-- The numbers of a partition pack of version 1.3 with the offsets of this, the previous and the footer partition, the
-- bytes of its header metadata and of its index, its IndexSID and its BodySID.
abbrev pub numbers : ℕ → ℕ → ℕ → ℕ → ℕ → ℕ → ℕ → PartitionNumbers
numbers this previous footer header_bytes index_bytes index_sid body_sid = record {
  major_version = 1;
  minor_version = 3;
  kag_size = 1;
  this_partition = this;
  previous_partition = previous;
  footer_partition = footer;
  header_byte_count = header_bytes;
  index_byte_count = index_bytes;
  index_sid = index_sid;
  body_offset = 0;
  body_sid = body_sid;
}

-- The label of operational pattern 1a.
abbrev pub pattern : List ℕ
pattern =
    0x06 ∷ 0x0E ∷ 0x2B ∷ 0x34 ∷ 0x04 ∷ 0x01 ∷ 0x01 ∷ 0x01
    ∷ 0x0D ∷ 0x01 ∷ 0x02 ∷ 0x01 ∷ 0x01 ∷ 0x01 ∷ 0x01 ∷ 0x00 ∷ []

-- A partition pack of a status that names no essence container.
abbrev pub pack_of : Status → PackPart → PartitionNumbers → PacketParts
pack_of status part n =
    packet_parts (pack_key part status) 4
    (pack_bytes (partition_pack_parts part status n pattern (batch_parts 0 16 [])))

-- One that is closed and complete.
abbrev pub pack : PackPart → PartitionNumbers → PacketParts
pack part n = pack_of ClosedComplete part n

-- A key of the file structure: those of the small files differ in bytes 6, 14 and 15, counted from 1.
abbrev pub structure_key : ℕ → ℕ → ℕ → List ℕ
structure_key registry group item =
    0x06 ∷ 0x0E ∷ 0x2B ∷ 0x34 ∷ 0x02 ∷ registry ∷ 0x01 ∷ 0x01
    ∷ 0x0D ∷ 0x01 ∷ 0x02 ∷ 0x01 ∷ 0x01 ∷ group ∷ item ∷ 0x00 ∷ []

-- A primer pack with one entry, whose label is sixteen bytes `AA`.
abbrev pub primer : PacketParts
primer =
    packet_parts (structure_key 0x05 0x05 0x01) 4
    (0x00 ∷ 0x00 ∷ 0x00 ∷ 0x01 ∷ 0x00 ∷ 0x00 ∷ 0x00 ∷ 0x12 ∷ 0x80 ∷ 0x01 ∷ replicate 16 0xAA)

-- The key of a header metadata set.
abbrev pub set_key : ℕ → List ℕ
set_key which =
    0x06 ∷ 0x0E ∷ 0x2B ∷ 0x34 ∷ 0x02 ∷ 0x53 ∷ 0x01 ∷ 0x01
    ∷ 0x0D ∷ 0x01 ∷ 0x01 ∷ 0x01 ∷ 0x01 ∷ 0x01 ∷ which ∷ 0x00 ∷ []

-- The item of an instance identifier: sixteen times the same byte.
abbrev pub identifier : ℕ → List ℕ
identifier byte = 0x3C ∷ 0x0A ∷ 0x00 ∷ 0x10 ∷ replicate 16 byte

-- A Preface of an identifier alone.
abbrev pub preface : PacketParts
preface = packet_parts (set_key 0x2F) 4 (identifier 0x11)

-- A header with its metadata and no footer.
abbrev pub h_file : List PacketParts
h_file = pack Header (numbers 0 0 0 86 0 0 0) ∷ primer ∷ preface ∷ []

-- Header and footer, each with its copy of the metadata.
abbrev pub n_file : List PacketParts
n_file =
    pack Header (numbers 0 0 194 86 0 0 0) ∷ primer ∷ preface
    ∷ pack Footer (numbers 194 0 194 86 0 0 0) ∷ primer ∷ preface ∷ []

-- A Preface that names a ContentStorage.
abbrev pub linked_preface : PacketParts
linked_preface =
    packet_parts (set_key 0x2F) 4 (identifier 0x11 ++ (0x3B ∷ 0x03 ∷ 0x00 ∷ 0x10 ∷ replicate 16 0x22))

-- A ContentStorage that names two packages.
abbrev pub storage : PacketParts
storage =
    packet_parts (set_key 0x18) 4
    (identifier 0x22 ++ ((0x19 ∷ 0x01 ∷ 0x00 ∷ 0x28 ∷ 0x00 ∷ 0x00 ∷ 0x00 ∷ 0x02 ∷ 0x00 ∷ 0x00 ∷ 0x00 ∷ 0x10 ∷ [])
    ++ (replicate 16 0x33 ++ replicate 16 0x44)))

-- A MaterialPackage whose package identifier is zero.
abbrev pub material : PacketParts
material = packet_parts (set_key 0x36) 4 (identifier 0x33 ++ (0x44 ∷ 0x01 ∷ 0x00 ∷ 0x20 ∷ replicate 32 0x00))

-- A header with metadata that name a package, and no footer.
abbrev pub r_file : List PacketParts
r_file = pack Header (numbers 0 0 0 266 0 0 0) ∷ primer ∷ linked_preface ∷ storage ∷ material ∷ []

-- The key of an element of the generic container.
abbrev pub essence_key : List ℕ
essence_key =
    0x06 ∷ 0x0E ∷ 0x2B ∷ 0x34 ∷ 0x01 ∷ 0x02 ∷ 0x01 ∷ 0x01
    ∷ 0x0D ∷ 0x01 ∷ 0x03 ∷ 0x01 ∷ 0x15 ∷ 0x01 ∷ 0x05 ∷ 0x00 ∷ []

-- A hundred bytes of essence.
abbrev pub essence : PacketParts
essence = packet_parts essence_key 4 (replicate 100 0x00)

-- A segment of 100 edit units from a unit below 256 on, at 25 units a second, of IndexSID 1 and BodySID 2. The units
-- have 249,856 bytes each and as many more as are given, below 256.
abbrev pub segment : ℕ → ℕ → PacketParts
segment start more =
    packet_parts (structure_key 0x53 0x10 0x01) 4
    ((0x3F ∷ 0x0B ∷ 0x00 ∷ 0x08 ∷ 0x00 ∷ 0x00 ∷ 0x00 ∷ 0x19 ∷ 0x00 ∷ 0x00 ∷ 0x00 ∷ 0x01 ∷ [])
    ++ ((0x3F ∷ 0x0C ∷ 0x00 ∷ 0x08 ∷ (replicate 7 0x00 ++ (start ∷ [])))
    ++ ((0x3F ∷ 0x0D ∷ 0x00 ∷ 0x08 ∷ (replicate 7 0x00 ++ (0x64 ∷ [])))
    ++ ((0x3F ∷ 0x05 ∷ 0x00 ∷ 0x04 ∷ 0x00 ∷ 0x03 ∷ 0xD0 ∷ more ∷ [])
    ++ ((0x3F ∷ 0x06 ∷ 0x00 ∷ 0x04 ∷ 0x00 ∷ 0x00 ∷ 0x00 ∷ 0x01 ∷ [])
    ++ ((0x3F ∷ 0x07 ∷ 0x00 ∷ 0x04 ∷ 0x00 ∷ 0x00 ∷ 0x00 ∷ 0x02 ∷ [])
    ++ ((0x3F ∷ 0x08 ∷ 0x00 ∷ 0x01 ∷ 0x00 ∷ [])
    ++ (0x3F ∷ 0x0E ∷ 0x00 ∷ 0x01 ∷ 0x00 ∷ []))))))))

-- That of 100 edit units of 250,000 bytes each, from the first on.
abbrev pub constant : PacketParts
constant = segment 0x00 0x90

-- An entry of a random index pack: a BodySID and an offset below 2^16.
abbrev pub entry : ℕ → ℕ → ℕ → List ℕ
entry body_sid high low = (replicate 3 0x00 ++ (body_sid ∷ [])) ++ (replicate 6 0x00 ++ (high ∷ low ∷ []))

-- A random index pack of the partitions at 0, 108 and 336.
abbrev pub three_entries : PacketParts
three_entries =
    packet_parts (structure_key 0x05 0x11 0x01) 4
    (entry 0x00 0x00 0x00 ++ (entry 0x02 0x00 0x6C ++ (entry 0x00 0x01 0x50
    ++ (0x00 ∷ 0x00 ∷ 0x00 ∷ 0x3C ∷ []))))

-- Header, body with essence, footer with an index, and a random index pack.
abbrev pub w_file : List PacketParts
w_file =
    pack Header (numbers 0 0 336 0 0 0 0) ∷ pack Body (numbers 108 0 336 0 0 0 2) ∷ essence
    ∷ pack Footer (numbers 336 108 336 0 90 1 0) ∷ constant ∷ three_entries ∷ []

-- A random index pack of the partitions at 0 and 108.
abbrev pub two_entries : PacketParts
two_entries =
    packet_parts (structure_key 0x05 0x11 0x01) 4
    (entry 0x00 0x00 0x00 ++ (entry 0x00 0x00 0x6C ++ (0x00 ∷ 0x00 ∷ 0x00 ∷ 0x30 ∷ [])))

-- A header that has no metadata, and a footer at 108 with these packets after it.
abbrev pub bare_file : List PacketParts → List PacketParts
bare_file after = pack Header (numbers 0 0 108 0 0 0 0) ∷ pack Footer (numbers 108 0 108 0 0 0 0) ∷ after

-- Header, footer and a random index pack.
abbrev pub m_file : List PacketParts
m_file = bare_file (two_entries ∷ [])

-- A fill of eight bytes.
abbrev pub fill : PacketParts
fill =
    packet_parts
    (0x06 ∷ 0x0E ∷ 0x2B ∷ 0x34 ∷ 0x01 ∷ 0x01 ∷ 0x01 ∷ 0x02
    ∷ 0x03 ∷ 0x01 ∷ 0x02 ∷ 0x10 ∷ 0x01 ∷ 0x00 ∷ 0x00 ∷ 0x00 ∷ [])
    4 (replicate 8 0x00)

-- A header whose metadata follow a fill, and a footer.
abbrev pub filled_file : List PacketParts
filled_file =
    pack Header (numbers 0 0 222 86 0 0 0) ∷ fill ∷ primer ∷ preface
    ∷ pack Footer (numbers 222 0 222 0 0 0 0) ∷ []

-- The same with two fills.
abbrev pub twice_filled_file : List PacketParts
twice_filled_file =
    pack Header (numbers 0 0 250 86 0 0 0) ∷ fill ∷ fill ∷ primer ∷ preface
    ∷ pack Footer (numbers 250 0 250 0 0 0 0) ∷ []

-- A header that is open and incomplete and doesn't know the footer, and the footer.
abbrev pub open_file : List PacketParts
open_file =
    pack_of OpenIncomplete Header (numbers 0 0 0 0 0 0 0) ∷ pack Footer (numbers 108 0 108 0 0 0 0) ∷ []

-- Two segments of one index that give the same places for the units that both cover.
abbrev pub agreeing_file : List PacketParts
agreeing_file = bare_file (constant ∷ segment 0x32 0x90 ∷ [])

-- What the reading from the front says of two of the well-formed ones.

-- A finished copy of 86 bytes with one Preface.
abbrev pub copy_of_86 : ℕ → ℕ → CopyInfo
copy_of_86 partition start = record {
  partition = partition;
  start = Some start;
  bytes = 86;
  covered = 86;
  finished = true;
  prefaces = 1;
  status = ClosedComplete;
}

abbrev pub n_copies : List CopyInfo
n_copies = copy_of_86 0 108 ∷ copy_of_86 194 302 ∷ []

-- An entry that a partition holds.
abbrev pub held_entry : ℕ → ℕ → RipEntry × Standing
held_entry body_sid offset = (record { body_sid = body_sid; offset = offset }, Held)

abbrev pub w_rip : RipView
w_rip = One (record { offset = 534; entries = held_entry 0 0 ∷ held_entry 2 108 ∷ held_entry 0 336 ∷ [] })
