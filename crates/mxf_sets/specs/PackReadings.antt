-- What values are read as, as functions of their bytes (ST 377-1, Partition Pack, Primer Pack, Random Index Pack). The
-- readers' clauses name them, and the law of readings says that they are the relations of the packs.
use Rattle.std.specs.Prelude.{ℕ, ◌+◌, ◌-◌, ◌%◌, ◌==◌, ◌&&◌, nat_le, if◌then◌else◌, List, [], ◌∷◌, length, take, drop}
use Rattle.std.specs.Prelude.{filter, map, Option, Some, None, Result, Ok, Err}
use Rattle.std.specs.List.{list_all}
use Rattle.std.specs.Str.{bytes_eq}
use Rattle.byteorder.specs.Endian.{big_number}
use Rattle.mxf_klv.specs.declared.kinds.Kind.{Kind}
use Rattle.mxf_klv.specs.declared.kinds.Kind.TheVariants as kinds
use Rattle.mxf_klv.specs.declared.kinds.Status.{Status}
use Rattle.mxf_sets.specs.declared.pack.PackFault.{PackFault}
use Rattle.mxf_sets.specs.declared.pack.PackFault.TheVariants as faults
use Rattle.mxf_sets.specs.declared.pack.part.PackPart.{PackPart}
use Rattle.mxf_sets.specs.declared.pack.part.PackPart.TheVariants.{Header, Body, Footer}
use Rattle.mxf_sets.specs.declared.pack.numbers.PartitionNumbers.{PartitionNumbers}
use Rattle.mxf_sets.specs.Batch.{BatchParts, batch_items, batch_parts, count_in, size_in}
use Rattle.mxf_sets.specs.Fields.{is_batch}
use Rattle.mxf_sets.specs.PartitionPack.{PartitionPackParts, partition_pack_parts}
use Rattle.mxf_sets.specs.RandomIndexPack.{RipParts, rip_parts, entries_of}

-- The batch that bytes state.
abbrev pub batch_in : List ℕ → BatchParts
batch_in bytes = batch_parts (count_in bytes) (size_in bytes) (drop 8 bytes)

-- The numbers of a partition pack at their places.
abbrev pub numbers_in : List ℕ → PartitionNumbers
numbers_in bytes = record {
  major_version = big_number 2 bytes;
  minor_version = big_number 2 (drop 2 bytes);
  kag_size = big_number 4 (drop 4 bytes);
  this_partition = big_number 8 (drop 8 bytes);
  previous_partition = big_number 8 (drop 16 bytes);
  footer_partition = big_number 8 (drop 24 bytes);
  header_byte_count = big_number 8 (drop 32 bytes);
  index_byte_count = big_number 8 (drop 40 bytes);
  index_sid = big_number 4 (drop 48 bytes);
  body_offset = big_number 8 (drop 52 bytes);
  body_sid = big_number 4 (drop 60 bytes);
}

-- The part and the status that the kind of a partition pack gives.
abbrev pub part_and_status : Kind → Option (PackPart × Status)
part_and_status (kinds.Header status) = Some (Header, status)
part_and_status (kinds.Body status) = Some (Body, status)
part_and_status (kinds.Footer status) = Some (Footer, status)
part_and_status _ = None

-- The partition pack whose fields stand at their places in a value.
abbrev pub pack_in : PackPart × Status → List ℕ → PartitionPackParts
pack_in key bytes = partition_pack_parts key.0 key.1 (numbers_in bytes) (take 16 (drop 64 bytes))
    (batch_in (drop 80 bytes))

-- What a value is under the part and status that its key gives, if it gives them.
abbrev pub pack_under : Option (PackPart × Status) → List ℕ → Result PartitionPackParts PackFault
pack_under None bytes = Err faults.NotThisKind
pack_under (Some key) bytes =
    if nat_le 88 (length bytes)
    then (if is_batch 16 (drop 80 bytes) then Ok (pack_in key bytes) else Err faults.BadBatch)
    else Err faults.Short

-- The partition pack that the value of a packet of a kind is, or the first fault.
abbrev pub pack_at : Kind → List ℕ → Result PartitionPackParts PackFault
pack_at kind bytes = pack_under (part_and_status kind) bytes

-- The entries of the primer pack that a value is, or its fault.
abbrev pub primer_at : List ℕ → Result BatchParts PackFault
primer_at bytes = if is_batch 18 bytes then Ok (batch_in bytes) else Err faults.BadBatch

-- The random index pack that a value is, or the first fault. Its packet spells its length in the given number of bytes.
abbrev pub rip_at : ℕ → List ℕ → Result RipParts PackFault
rip_at width bytes =
    let rest = length bytes - 4 in
    if nat_le 4 (length bytes)
    then (
    if (rest % 12 == 0) && (big_number 4 (drop rest bytes) == 16 + width + length bytes)
    then Ok (rip_parts width (entries_of (take rest bytes)))
    else Err faults.WrongLength)
    else Err faults.Short

-- The labels of those entries that have the tag, in their order.
abbrev pub labels_among : ℕ → List (List ℕ) → List (List ℕ)
labels_among tag entries = map (λ entry. drop 2 entry) (filter (λ entry. big_number 2 entry == tag) entries)

-- The one that all of them are, if there are any.
abbrev pub agreed : List (List ℕ) → Option (List ℕ)
agreed [] = None
agreed (label ∷ labels) = if list_all (λ other. bytes_eq label other) labels then Some label else None

-- The label of a tag: the one that its entries agree on (this project's profile).
abbrev pub label_of : ℕ → BatchParts → Option (List ℕ)
label_of tag entries = agreed (labels_among tag (batch_items entries))
