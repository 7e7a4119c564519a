-- Partition packs (ST 377-1, Partition Pack and its key). Bytes of a key are counted from 1.
use Rattle.std.specs.Prelude.{◌≡◌, ℕ, ◌^◌, ◌<◌, ◌≤◌, List, ◌∷◌, ◌++◌, length, drop, Result, Ok, Err}
use Rattle.byteorder.specs.Endian.{big_bytes}
use Rattle.mxf_klv.specs.Kind as keys
use Rattle.mxf_klv.specs.Label.{label_start}
use Rattle.mxf_klv.specs.declared.kinds.Kind.{Kind}
use Rattle.mxf_klv.specs.declared.kinds.Kind.TheVariants as kinds
use Rattle.mxf_klv.specs.declared.kinds.Status.{Status}
use Rattle.mxf_klv.specs.declared.kinds.Status.TheVariants.{OpenIncomplete, ClosedIncomplete, OpenComplete}
use Rattle.mxf_klv.specs.declared.kinds.Status.TheVariants.{ClosedComplete}
use Rattle.mxf_sets.specs.declared.pack.PackFault.{PackFault}
use Rattle.mxf_sets.specs.declared.pack.PackFault.TheVariants as faults
use Rattle.mxf_sets.specs.declared.pack.part.PackPart.{PackPart}
use Rattle.mxf_sets.specs.declared.pack.part.PackPart.TheVariants.{Header, Body, Footer}
use Rattle.mxf_sets.specs.declared.pack.numbers.PartitionNumbers.{PartitionNumbers}
use Rattle.mxf_sets.specs.Batch.{BatchParts, AreBatchParts, IsBatch, HasItemsOf, batch_bytes}

-- The kind of a packet with a partition pack.
abbrev pub pack_kind : PackPart → Status → Kind
pack_kind Header status = kinds.Header status
pack_kind Body status = kinds.Body status
pack_kind Footer status = kinds.Footer status

-- The packet has a partition pack.
abbrev pub IsPartitionKind : Kind → Type 0
IsPartitionKind kind = (part : PackPart) × (status : Status) × (kind ≡ pack_kind part status)

-- Byte 14 of the key of a partition pack.
abbrev pub part_byte : PackPart → ℕ
part_byte Header = 0x02
part_byte Body = 0x03
part_byte Footer = 0x04

-- Byte 15 of the key of a partition pack.
abbrev pub status_byte : Status → ℕ
status_byte OpenIncomplete = 0x01
status_byte ClosedIncomplete = 0x02
status_byte OpenComplete = 0x03
status_byte ClosedComplete = 0x04

-- The key of a partition pack: a label with the bytes of its row of the key table, and `01` for the version.
abbrev pub pack_key : PackPart → Status → List ℕ
pack_key part status =
    let row = keys.pack (part_byte part) (status_byte status) (pack_kind part status) in
    label_start ++ (row.registry ++ (0x01 ∷ row.item))

-- Each number fits the bytes that it has.
pub record ArePartitionNumbers (numbers : PartitionNumbers) : Type 0 where
  pub major_version : numbers.major_version < 2 ^ 16
  pub minor_version : numbers.minor_version < 2 ^ 16
  pub kag_size : numbers.kag_size < 2 ^ 32
  pub this_partition : numbers.this_partition < 2 ^ 64
  pub previous_partition : numbers.previous_partition < 2 ^ 64
  pub footer_partition : numbers.footer_partition < 2 ^ 64
  pub header_byte_count : numbers.header_byte_count < 2 ^ 64
  pub index_byte_count : numbers.index_byte_count < 2 ^ 64
  pub index_sid : numbers.index_sid < 2 ^ 32
  pub body_offset : numbers.body_offset < 2 ^ 64
  pub body_sid : numbers.body_sid < 2 ^ 32

-- The numbers in their order, the highest byte of each first.
abbrev pub numbers_bytes : PartitionNumbers → List ℕ
numbers_bytes n =
    big_bytes 2 n.major_version ++ (big_bytes 2 n.minor_version
    ++ (big_bytes 4 n.kag_size
    ++ (big_bytes 8 n.this_partition ++ (big_bytes 8 n.previous_partition ++ (big_bytes 8 n.footer_partition
    ++ (big_bytes 8 n.header_byte_count ++ (big_bytes 8 n.index_byte_count
    ++ (big_bytes 4 n.index_sid
    ++ (big_bytes 8 n.body_offset ++ big_bytes 4 n.body_sid)))))))))

-- A partition pack: the part of the file and the status, which its key gives, and the numbers, the label of the
-- operational pattern and the labels of the essence containers, which its value has.
pub record PartitionPackParts : Type 0 where
  pub part : PackPart
  pub status : Status
  pub numbers : PartitionNumbers
  pub pattern : List ℕ
  pub containers : BatchParts

-- The partition pack of these parts.
abbrev pub partition_pack_parts : PackPart → Status → PartitionNumbers → List ℕ → BatchParts → PartitionPackParts
partition_pack_parts part status numbers pattern containers =
    record { part = part; status = status; numbers = numbers; pattern = pattern; containers = containers }

-- Which partition packs there are.
pub record ArePartitionPackParts (pack : PartitionPackParts) : Type 0 where
  pub numbers : ArePartitionNumbers pack.numbers
  pub pattern : length pack.pattern ≡ 16
  pub containers : AreBatchParts pack.containers
  pub labels : HasItemsOf 16 pack.containers

-- The value of a partition pack.
abbrev pub pack_bytes : PartitionPackParts → List ℕ
pack_bytes pack = numbers_bytes pack.numbers ++ (pack.pattern ++ batch_bytes pack.containers)

-- The value is that of the partition pack.
pub record IsPartitionPack (bytes : List ℕ) (pack : PartitionPackParts) : Type 0 where
  pub parts : ArePartitionPackParts pack
  pub whole : bytes ≡ pack_bytes pack

-- What the value of a packet of a kind is when a partition pack is asked for: the pack; none, for the kind; fewer bytes
-- than the fields of every pack; or no labels of sixteen bytes after the pattern.
abbrev pub ReadsPack : Kind → List ℕ → Result PartitionPackParts PackFault → Type 0
ReadsPack kind bytes (Ok pack) = (kind ≡ pack_kind pack.part pack.status) × IsPartitionPack bytes pack
ReadsPack kind bytes (Err faults.NotThisKind) = ¬ IsPartitionKind kind
ReadsPack kind bytes (Err faults.Short) = IsPartitionKind kind × (length bytes < 88)
ReadsPack kind bytes (Err faults.BadBatch) =
    IsPartitionKind kind × (88 ≤ length bytes)
    × ((labels : BatchParts) → IsBatch (drop 80 bytes) labels → ¬ HasItemsOf 16 labels)
ReadsPack kind bytes (Err faults.WrongLength) = ⊥
