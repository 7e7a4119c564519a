-- Bytes are a batch of a size, or one of the faults.
use Rattle.std.proofs.Common.{◌≡◌, ℕ, suc, ◌+◌, List, ◌∷◌, length, take, drop, Err, arith, zero-mul}
use Rattle.byteorder.specs.Endian.{big_number}
use Rattle.byteorder.specs.Numbers.{big_number-reads_back}
use Rattle.mxf_sets.specs.declared.batch.BatchFault.{BatchFault}
use Rattle.mxf_sets.specs.Batch.{BatchParts, AreBatchParts, IsBatch, HasItemsOf, ReadsBatch, batch_bytes, sized_items}
use Rattle.mxf_sets.proofs.Numbers.{same_number}

pub same_parts : (a b : BatchParts) → a.count ≡ b.count → a.size ≡ b.size → a.items ≡ b.items → a ≡ b
same_parts a b e f g i = record { count = e i; size = f i; items = g i }

-- two batches with the same bytes are one
pub same_batch : (a b : BatchParts) → AreBatchParts a → AreBatchParts b → batch_bytes a ≡ batch_bytes b → a ≡ b
same_batch a b p q e = grind (arith, same_number, same_parts)

-- a batch has eight bytes and those of its items
pub length-batch_bytes : (b : BatchParts) → length (batch_bytes b) ≡ 8 + length b.items
length-batch_bytes b = omega arith

-- what the first eight bytes of a batch say
pub stated : (bytes : List ℕ) (b : BatchParts) → IsBatch bytes b
    → (big_number 4 bytes ≡ b.count) × (big_number 4 (drop 4 bytes) ≡ b.size)
stated bytes b is = grind (arith, big_number-reads_back)

-- where a batch of the size stands there is no fault
pub no_fault : (size : ℕ) (bytes : List ℕ) (b : BatchParts) (e : BatchFault) → IsBatch bytes b → HasItemsOf size b
    → ReadsBatch size bytes (Err e) → ⊥
no_fault size bytes b e h k p = grind (arith, stated, zero-mul)

next : (n : ℕ) → n + 1 ≡ suc n
next n = omega arith

-- the first of the items, and those after it
pub first_item : (count left size : ℕ) (bytes item rest : List ℕ) → count ≡ left + 1 → item ≡ take size bytes
    → rest ≡ drop size bytes → sized_items count size bytes ≡ item ∷ sized_items left size rest
first_item count left size bytes item rest e i r = grind (arith, next)
