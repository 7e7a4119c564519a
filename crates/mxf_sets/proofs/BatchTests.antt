-- What the test of a batch says, and when it passes.
use Rattle.mxf_klv.proofs.Common.{AreBytes, ◌≡◌, ℕ, ◌+◌, ◌-◌, ◌*◌, ◌≤◌, ◌⊎◌, ◌++◌, inl, inr, true, false, List, length}
use Rattle.mxf_klv.proofs.Common.{take, drop, refl, ap, ◌∙◌, sym, arith, eq-eqb, eqb-true, or_cases, drop-drop}
use Rattle.mxf_klv.proofs.Common.{drop-take, take_rest}
use Rattle.byteorder.specs.Endian.{big_bytes, big_number}
use Rattle.byteorder.specs.Numbers.{big_from-take, big_from-lt}
use Rattle.mxf_klv.proofs.RoundTrips.{AreBytes-take, AreBytes-drop}
use Rattle.mxf_sets.proofs.Numbers.{number_in_front}
use Rattle.std.proofs.Common.{length-drop, le-leb, leb-true}
use Rattle.std.specs.Prelude.{Result, is_ok}
use Rattle.mxf_sets.specs.declared.batch.BatchFault.{BatchFault}
use Rattle.mxf_sets.specs.Batch.{BatchParts, IsBatch, HasItemsOf, ReadsBatch, batch_parts}
use Rattle.mxf_sets.proofs.BatchLaws.{length-batch_bytes, stated}
use Rattle.mxf_sets.specs.Fields.{is_batch}
use Rattle.mxf_klv.proofs.Tests.{either, all_three, three_parts}

-- the test, in words
pub test_says : (size : ℕ) (v : List ℕ) → is_batch size v ≡ true
    → (8 ≤ length v) × ((big_number 4 v ≡ 0) ⊎ (big_number 4 (drop 4 v) ≡ size))
    × (length v ≡ 8 + big_number 4 v * size)
test_says size v h = grind (arith, eqb-true, leb-true, or_cases, three_parts)

pub test_passes : (size : ℕ) (v : List ℕ) → 8 ≤ length v → (big_number 4 v ≡ 0) ⊎ (big_number 4 (drop 4 v) ≡ size)
    → length v ≡ 8 + big_number 4 v * size → is_batch size v ≡ true
test_passes size v long which whole = grind (arith, all_three, either, eq-eqb, le-leb)

-- what fails one of the three fails the test
pub test_fails : (size : ℕ) (v : List ℕ) → (is_batch size v ≡ true → ⊥) → is_batch size v ≡ false
test_fails size v h = grind arith

-- the test is whether the reader finds a batch
pub reads_test : (size : ℕ) (bytes : List ℕ) (r : Result BatchParts BatchFault) → ReadsBatch size bytes r
    → is_ok r ≡ is_batch size bytes
reads_test size bytes r h = grind (arith, length-batch_bytes, stated, test_fails, test_passes, test_says)

-- the two numbers at the front, and the rest
whole_batch : (bytes : List ℕ) → AreBytes bytes → 8 ≤ length bytes
    → bytes ≡ big_bytes 4 (big_number 4 bytes) ++ (big_bytes 4 (big_number 4 (drop 4 bytes)) ++ drop 8 bytes)
whole_batch bytes h long =
    let rest = drop 4 bytes in
    let left = length-drop 4 bytes in
    number_in_front 4 (big_number 4 bytes) bytes (take 4 bytes) rest refl refl
    (sym (big_from-take 0 4 4 bytes (omega arith))) (omega arith) (AreBytes-take 4 bytes h)
    ∙ ap (λ (r : List ℕ). big_bytes 4 (big_number 4 bytes) ++ r)
    (number_in_front 4 (big_number 4 rest) rest (take 4 rest) (drop 8 bytes) refl (sym (drop-drop 4 4 bytes))
    (sym (big_from-take 0 4 4 rest (omega arith))) (omega (arith, left))
    (AreBytes-take 4 rest (AreBytes-drop 4 bytes h)))

-- the second number, read behind the first in the eight bytes that both have
pub second_number : (bytes head : List ℕ) → head ≡ take 8 bytes
    → big_number 4 (take (length head - 4) (drop 4 head)) ≡ big_number 4 (drop 4 bytes)
second_number bytes head e = grind (arith, big_from-take, drop-take, take_rest)

-- bytes that are as many as their numbers say are a batch
pub counted_batch : (bytes items : List ℕ) (count size : ℕ) → AreBytes bytes → 8 ≤ length bytes
    → count ≡ big_number 4 bytes → size ≡ big_number 4 (drop 4 bytes) → items ≡ drop 8 bytes
    → length items ≡ count * size → IsBatch bytes (batch_parts count size items)
counted_batch bytes items count size h long c s i len =
    grind (
      arith,
      big_from-lt 0 4 bytes h,
      big_from-lt 0 4 (drop 4 bytes) (AreBytes-drop 4 bytes h),
      AreBytes-drop 4 bytes h,
      whole_batch bytes h long,
      big_bytes 4,
    )

-- what passes the test is a batch
pub tested_batch : (size : ℕ) (bytes : List ℕ) → AreBytes bytes → is_batch size bytes ≡ true
    → (b : BatchParts) × IsBatch bytes b × HasItemsOf size b
tested_batch size bytes h t =
    let s = test_says size bytes t in
    let count = big_number 4 bytes in
    let own = big_number 4 (drop 4 bytes) in
    let left = length-drop 8 bytes in
    let product : count * own ≡ count * size =
    elim s.1 [
      | inl p ↦ ap (λ (n : ℕ). n * own) p ∙ (let z : 0 * own ≡ 0 * size = omega arith in z)
          ∙ ap (λ (n : ℕ). n * size) (sym p)
      | inr q ↦ ap (λ (n : ℕ). count * n) q
    ] in
    let whole : length bytes ≡ 8 + count * size = s.2 in (
      batch_parts count own (drop 8 bytes),
      counted_batch bytes (drop 8 bytes) count own h s.0 refl refl refl (omega (arith, product)),
      s.1,
    )

-- a batch passes the test
pub batch_tested : (size : ℕ) (bytes : List ℕ) → (b : BatchParts) × IsBatch bytes b × HasItemsOf size b
    → is_batch size bytes ≡ true
batch_tested size bytes (b, is, own) = grind (arith, reads_test)
