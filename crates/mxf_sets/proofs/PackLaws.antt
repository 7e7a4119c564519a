-- A value is a partition pack of a kind, or one of the faults.
use Rattle.std.proofs.Common.{◌≡◌, ℕ, ◌≤◌, List, ◌++◌, length, take, drop, Ok, Err, Result, sym, ap, ◌∙◌, arith}
use Rattle.std.proofs.lemmas.List.{take_at, drop_at, take-append-drop, drop-drop, length-drop}
use Rattle.mxf_klv.specs.declared.kinds.Kind.{Kind}
use Rattle.mxf_klv.specs.declared.kinds.Status.{Status}
use Rattle.mxf_sets.specs.declared.batch.BatchFault.{BatchFault}
use Rattle.mxf_sets.specs.declared.pack.PackFault.{PackFault}
use Rattle.mxf_sets.specs.declared.pack.part.PackPart.{PackPart}
use Rattle.mxf_sets.specs.declared.pack.numbers.PartitionNumbers.{PartitionNumbers}
use Rattle.mxf_sets.specs.Batch.{BatchParts, IsBatch, HasItemsOf, ReadsBatch, batch_bytes}
use Rattle.mxf_sets.specs.PartitionPack.{pack_kind, ArePartitionNumbers, numbers_bytes, PartitionPackParts}
use Rattle.mxf_sets.specs.PartitionPack.{IsPartitionPack, ReadsPack, partition_pack_parts}
use Rattle.mxf_sets.proofs.Numbers.{same_number}
use Rattle.mxf_sets.proofs.BatchLaws.{same_batch, length-batch_bytes, no_fault}

pub same_fields : (a b : PartitionNumbers) → a.major_version ≡ b.major_version → a.minor_version ≡ b.minor_version
    → a.kag_size ≡ b.kag_size → a.this_partition ≡ b.this_partition
    → a.previous_partition ≡ b.previous_partition → a.footer_partition ≡ b.footer_partition
    → a.header_byte_count ≡ b.header_byte_count → a.index_byte_count ≡ b.index_byte_count
    → a.index_sid ≡ b.index_sid → a.body_offset ≡ b.body_offset → a.body_sid ≡ b.body_sid → a ≡ b
same_fields a b p0 p1 p2 p3 p4 p5 p6 p7 p8 p9 p10 i = record {
  major_version = p0 i;
  minor_version = p1 i;
  kag_size = p2 i;
  this_partition = p3 i;
  previous_partition = p4 i;
  footer_partition = p5 i;
  header_byte_count = p6 i;
  index_byte_count = p7 i;
  index_sid = p8 i;
  body_offset = p9 i;
  body_sid = p10 i;
}

-- two rows of numbers at the front of one text are one
same_numbers : (a b : PartitionNumbers) (xs ys : List ℕ) → ArePartitionNumbers a → ArePartitionNumbers b
    → numbers_bytes a ++ xs ≡ numbers_bytes b ++ ys → (a ≡ b) × (xs ≡ ys)
same_numbers a b xs ys p q e = grind (arith, same_fields, same_number)

pub same_parts : (a b : PartitionPackParts) → a.part ≡ b.part → a.status ≡ b.status → a.numbers ≡ b.numbers
    → a.pattern ≡ b.pattern → a.containers ≡ b.containers → a ≡ b
same_parts a b p0 p1 p2 p3 p4 i =
    record { part = p0 i; status = p1 i; numbers = p2 i; pattern = p3 i; containers = p4 i }

-- under one part and status a value is that of one pack
pub same_pack : (bytes : List ℕ) (a b : PartitionPackParts) → a.part ≡ b.part → a.status ≡ b.status
    → IsPartitionPack bytes a → IsPartitionPack bytes b → a ≡ b
same_pack bytes a b part status p q =
    let n = same_numbers a.numbers b.numbers (a.pattern ++ batch_bytes a.containers)
    (b.pattern ++ batch_bytes b.containers) p.parts.numbers q.parts.numbers (sym p.whole ∙ q.whole) in
    let pattern : a.pattern ≡ b.pattern = sym (take_at a.pattern (batch_bytes a.containers) 16 p.parts.pattern)
    ∙ ap (take 16) n.1 ∙ take_at b.pattern (batch_bytes b.containers) 16 q.parts.pattern in
    let labels : batch_bytes a.containers ≡ batch_bytes b.containers =
    sym (drop_at a.pattern (batch_bytes a.containers) 16 p.parts.pattern) ∙ ap (drop 16) n.1
    ∙ drop_at b.pattern (batch_bytes b.containers) 16 q.parts.pattern in
    same_parts a b part status n.0 pattern
    (same_batch a.containers b.containers p.parts.containers q.parts.containers labels)

-- the labels of the containers stand at place 80
pub labels_at : (bytes : List ℕ) (p : PartitionPackParts) → IsPartitionPack bytes p
    → drop 80 bytes ≡ batch_bytes p.containers
labels_at bytes p is = ap (drop 80) is.whole ∙ drop_at p.pattern (batch_bytes p.containers) 16 is.parts.pattern

same_kind : (p q : PackPart) (s t : Status) → pack_kind p s ≡ pack_kind q t → (p ≡ q) × (s ≡ t)
same_kind p q s t h = grind arith

-- where a pack stands there is no fault
ok_excludes : (kind : Kind) (bytes : List ℕ) (p : PartitionPackParts) (e : PackFault) → ReadsPack kind bytes (Ok p)
    → ReadsPack kind bytes (Err e) → ⊥
ok_excludes kind bytes p e h k =
    grind (arith, labels_at bytes p h.1, length-batch_bytes p.containers, length-drop 80 bytes)

one_fault : (kind : Kind) (bytes : List ℕ) (d e : PackFault) → ReadsPack kind bytes (Err d)
    → ReadsPack kind bytes (Err e) → d ≡ e
one_fault kind bytes d e h k = grind arith

pub one_pack_read : (kind : Kind) (bytes : List ℕ) (r s : Result PartitionPackParts PackFault) → ReadsPack kind bytes r
    → ReadsPack kind bytes s → r ≡ s
one_pack_read kind bytes (Ok a) (Ok b) p q =
    grind (arith, same_kind a.part b.part a.status b.status (sym p.0 ∙ q.0), same_pack bytes a b)
one_pack_read kind bytes (Ok a) (Err e) p q = absurd (ok_excludes kind bytes a e p q)
one_pack_read kind bytes (Err d) (Ok b) p q = absurd (ok_excludes kind bytes b d q p)
one_pack_read kind bytes (Err d) (Err e) p q = ap (λ (x : PackFault). Err x) (one_fault kind bytes d e p q)

-- ---- reading

-- no batch of labels stands at place 80
pub bad_batch : (bytes after rest : List ℕ) (e : BatchFault) → after ≡ drop 64 bytes → rest ≡ drop 16 after
    → 8 ≤ length rest → ReadsBatch 16 rest (Err e)
    → (88 ≤ length bytes) × ((labels : BatchParts) → IsBatch (drop 80 bytes) labels → HasItemsOf 16 labels → ⊥)
bad_batch bytes after rest e is1 is2 long r =
    grind (arith, drop-drop 16 64 bytes, length-drop 80 bytes, no_fault 16 rest)

-- the pack whose numbers, pattern and labels were read
pub pack_read : (bytes front after pattern rest : List ℕ) (part : PackPart) (status : Status) (n : PartitionNumbers)
    (b : BatchParts) → front ≡ take 64 bytes → after ≡ drop 64 bytes
    → pattern ≡ take 16 after → rest ≡ drop 16 after → length pattern ≡ 16 → ArePartitionNumbers n
    → front ≡ numbers_bytes n → IsBatch rest b → HasItemsOf 16 b
    → IsPartitionPack bytes (partition_pack_parts part status n pattern b)
pack_read bytes front after pattern rest part status n b f a p r len fits is batch has =
    grind (arith, take-append-drop 64 bytes, numbers_bytes n, take-append-drop 16 after)
