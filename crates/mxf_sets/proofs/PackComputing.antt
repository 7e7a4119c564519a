-- The readings of packs, computed: they are what the relations say, both ways.
use Rattle.std.proofs.Common.{◌≡◌, ℕ, ◌+◌, ◌-◌, ◌%◌, ◌≤◌, ◌↔◌, ◌++◌, List, true, false, cond, length, length-drop, take}
use Rattle.std.proofs.Common.{drop, None, Some, Result, Ok, Err, refl, sym, ap, subst, ◌∙◌, arith, inl, inr, leb-true}
use Rattle.std.proofs.Common.{eq-eqb, eqb-true}
use Rattle.std.proofs.lemmas.Bool.{leb-false, and_parts, and_cases}
use Rattle.std.proofs.lemmas.List.{take-append-drop, drop-drop, length-take}
use Rattle.std.specs.Prelude.{nat_le, ◌==◌, ◌&&◌}
use Rattle.byteorder.specs.Endian.{big_number, big_bytes}
use Rattle.byteorder.specs.Numbers.{big_from-lt}
use Rattle.mxf_klv.specs.Bytes.{AreBytes}
use Rattle.mxf_klv.proofs.RoundTrips.{AreBytes-take, AreBytes-drop}
use Rattle.mxf_klv.specs.declared.kinds.Kind.{Kind}
use Rattle.mxf_klv.specs.declared.kinds.Kind.TheVariants as kinds
use Rattle.mxf_klv.specs.declared.kinds.Status.{Status}
use Rattle.mxf_sets.specs.declared.pack.PackFault.{PackFault}
use Rattle.mxf_sets.specs.declared.pack.PackFault.TheVariants as faults
use Rattle.mxf_sets.specs.declared.pack.part.PackPart.{PackPart}
use Rattle.mxf_sets.specs.declared.pack.part.PackPart.TheVariants.{Header, Body, Footer}
use Rattle.mxf_sets.specs.Batch.{BatchParts, IsBatch, HasItemsOf}
use Rattle.mxf_sets.specs.Fields.{is_batch}
use Rattle.mxf_sets.specs.Primer.{ReadsPrimer}
use Rattle.mxf_sets.specs.PartitionPack.{pack_kind, ArePartitionNumbers, numbers_bytes, PartitionPackParts}
use Rattle.mxf_sets.specs.PartitionPack.{IsPartitionPack, IsPartitionKind, ReadsPack}
use Rattle.mxf_sets.specs.RandomIndexPack.{RipParts, ReadsRip, entries_of, rip_parts}
use Rattle.mxf_sets.specs.PackReadings.{batch_in, numbers_in, part_and_status, pack_in, pack_under, pack_at, primer_at}
use Rattle.mxf_sets.specs.PackReadings.{rip_at}
use Rattle.mxf_sets.proofs.BatchLaws.{stated, same_parts}
use Rattle.mxf_sets.proofs.BatchTests.{tested_batch, batch_tested}
use Rattle.mxf_sets.proofs.PackLaws.{one_pack_read}
use Rattle.mxf_sets.proofs.PrimerLaws.{one_primer_read}
use Rattle.mxf_sets.proofs.RipLaws.{number_here, length-entries_of, entries_are, one_rip_read, rip_read}

-- ---- batches

-- the batch that bytes state is the one that they are
pub batch_is : (bytes : List ℕ) (b : BatchParts) → IsBatch bytes b → batch_in bytes ≡ b
batch_is bytes b is = let s = stated bytes b is in same_parts (batch_in bytes) b s.0 s.1 (ap (drop 8) is.whole)

-- bytes that pass the test are the batch that they state
batch_stated : (size : ℕ) (bytes : List ℕ) → AreBytes bytes → is_batch size bytes ≡ true
    → IsBatch bytes (batch_in bytes) × HasItemsOf size (batch_in bytes)
batch_stated size bytes h t = grind (arith, batch_is, tested_batch)

-- bytes that fail the test are no batch of items of the size
no_batch : (size : ℕ) (bytes : List ℕ) → is_batch size bytes ≡ false → (b : BatchParts) → IsBatch bytes b
    → HasItemsOf size b → ⊥
no_batch size bytes f b is own = let t = batch_tested size bytes (b, is, own) in cc (t, f)

-- ---- primer packs

pub primer_computed : (bytes : List ℕ) → AreBytes bytes → ReadsPrimer bytes (primer_at bytes)
primer_computed bytes h = grind (arith, batch_stated, no_batch)

pub primer_computes : (bytes : List ℕ) (r : Result BatchParts PackFault) → AreBytes bytes → ReadsPrimer bytes r
    → r ≡ primer_at bytes
primer_computes bytes r h p = one_primer_read bytes r (primer_at bytes) p (primer_computed bytes h)

-- ---- partition packs

-- a number at its place, and what follows it
number_there : (n at : ℕ) (bytes : List ℕ) → at + n ≤ length bytes → AreBytes bytes
    → drop at bytes ≡ big_bytes n (big_number n (drop at bytes)) ++ drop (at + n) bytes
number_there n at bytes room h =
    number_here n (drop at bytes) (omega (arith, length-drop at bytes)) (AreBytes-drop at bytes h)
    ∙ ap (λ (t : List ℕ). big_bytes n (big_number n (drop at bytes)) ++ t) (drop-drop n at bytes)

-- the eleven numbers at their places, and what follows them
numbers_there : (bytes : List ℕ) → 64 ≤ length bytes → AreBytes bytes → bytes ≡ numbers_bytes (numbers_in bytes)
    ++ drop 64 bytes
numbers_there bytes room h = number_here 2 bytes (omega arith) h
    ∙ ap (λ (t : List ℕ). big_bytes 2 (big_number 2 bytes) ++ t) (number_there 2 2 bytes (omega arith) h
    ∙ ap (λ (t : List ℕ). big_bytes 2 (big_number 2 (drop 2 bytes)) ++ t) (number_there 4 4 bytes (omega arith) h
    ∙ ap (λ (t : List ℕ). big_bytes 4 (big_number 4 (drop 4 bytes)) ++ t) (number_there 8 8 bytes (omega arith) h
    ∙ ap (λ (t : List ℕ). big_bytes 8 (big_number 8 (drop 8 bytes)) ++ t) (number_there 8 16 bytes (omega arith) h
    ∙ ap (λ (t : List ℕ). big_bytes 8 (big_number 8 (drop 16 bytes)) ++ t) (number_there 8 24 bytes (omega arith) h
    ∙ ap (λ (t : List ℕ). big_bytes 8 (big_number 8 (drop 24 bytes)) ++ t) (number_there 8 32 bytes (omega arith) h
    ∙ ap (λ (t : List ℕ). big_bytes 8 (big_number 8 (drop 32 bytes)) ++ t) (number_there 8 40 bytes (omega arith) h
    ∙ ap (λ (t : List ℕ). big_bytes 8 (big_number 8 (drop 40 bytes)) ++ t) (number_there 4 48 bytes (omega arith) h
    ∙ ap (λ (t : List ℕ). big_bytes 4 (big_number 4 (drop 48 bytes)) ++ t) (number_there 8 52 bytes (omega arith) h
    ∙ ap (λ (t : List ℕ). big_bytes 8 (big_number 8 (drop 52 bytes))
    ++ t) (number_there 4 60 bytes (omega arith) h))))))))))

numbers_fit : (bytes : List ℕ) → AreBytes bytes → ArePartitionNumbers (numbers_in bytes)
numbers_fit bytes h = record {
  major_version = big_from-lt 0 2 bytes h;
  minor_version = big_from-lt 0 2 (drop 2 bytes) (AreBytes-drop 2 bytes h);
  kag_size = big_from-lt 0 4 (drop 4 bytes) (AreBytes-drop 4 bytes h);
  this_partition = big_from-lt 0 8 (drop 8 bytes) (AreBytes-drop 8 bytes h);
  previous_partition = big_from-lt 0 8 (drop 16 bytes) (AreBytes-drop 16 bytes h);
  footer_partition = big_from-lt 0 8 (drop 24 bytes) (AreBytes-drop 24 bytes h);
  header_byte_count = big_from-lt 0 8 (drop 32 bytes) (AreBytes-drop 32 bytes h);
  index_byte_count = big_from-lt 0 8 (drop 40 bytes) (AreBytes-drop 40 bytes h);
  index_sid = big_from-lt 0 4 (drop 48 bytes) (AreBytes-drop 48 bytes h);
  body_offset = big_from-lt 0 8 (drop 52 bytes) (AreBytes-drop 52 bytes h);
  body_sid = big_from-lt 0 4 (drop 60 bytes) (AreBytes-drop 60 bytes h);
}

-- a value that is long enough and has labels at place 80 is the pack at its places
pack_there : (key : PackPart × Status) (bytes : List ℕ) → AreBytes bytes → 88 ≤ length bytes
    → is_batch 16 (drop 80 bytes) ≡ true → IsPartitionPack bytes (pack_in key bytes)
pack_there key bytes h long t =
    grind (
      arith,
      batch_stated 16 (drop 80 bytes) (AreBytes-drop 80 bytes h),
      AreBytes-drop 80 bytes h,
      numbers_fit bytes h,
      length-take 16 (drop 64 bytes),
      length-drop 64 bytes,
      numbers_there bytes (omega arith) h,
      numbers_bytes (numbers_in bytes),
      numbers_in bytes,
      take-append-drop 16 (drop 64 bytes),
      drop-drop 16 64 bytes,
    )

kind_told : (key : PackPart × Status) → IsPartitionKind (pack_kind key.0 key.1)
kind_told key = (key.0, key.1, refl)

under_key : (key : PackPart × Status) (bytes : List ℕ) → AreBytes bytes
    → ReadsPack (pack_kind key.0 key.1) bytes (pack_under (Some key) bytes)
under_key key bytes h =
    grind (
      arith,
      pack_in key bytes,
      pack_kind key.0 key.1,
      kind_told key,
      nat_le 88 (length bytes),
      is_batch 16 (drop 80 bytes),
      leb-true 88 (length bytes),
      pack_there key bytes h,
      no_batch 16 (drop 80 bytes),
      leb-false 88 (length bytes),
    )

no_key : (kind : Kind) → part_and_status kind ≡ None → IsPartitionKind kind → ⊥
no_key kind h k = grind arith

pub pack_computed : (kind : Kind) (bytes : List ℕ) → AreBytes bytes → ReadsPack kind bytes (pack_at kind bytes)
pack_computed (kinds.Header status) bytes h = under_key (Header, status) bytes h
pack_computed (kinds.Body status) bytes h = under_key (Body, status) bytes h
pack_computed (kinds.Footer status) bytes h = under_key (Footer, status) bytes h
pack_computed kinds.Primer bytes h = no_key kinds.Primer refl
pack_computed kinds.Segment bytes h = no_key kinds.Segment refl
pack_computed kinds.Rip bytes h = no_key kinds.Rip refl
pack_computed kinds.Preface bytes h = no_key kinds.Preface refl
pack_computed kinds.Identification bytes h = no_key kinds.Identification refl
pack_computed kinds.ContentStorage bytes h = no_key kinds.ContentStorage refl
pack_computed kinds.MaterialPackage bytes h = no_key kinds.MaterialPackage refl
pack_computed kinds.SourcePackage bytes h = no_key kinds.SourcePackage refl
pack_computed kinds.RawSet bytes h = no_key kinds.RawSet refl
pack_computed kinds.Fill bytes h = no_key kinds.Fill refl
pack_computed kinds.Essence bytes h = no_key kinds.Essence refl
pack_computed kinds.Other bytes h = no_key kinds.Other refl

pub pack_computes : (kind : Kind) (bytes : List ℕ) (r : Result PartitionPackParts PackFault) → AreBytes bytes
    → ReadsPack kind bytes r → r ≡ pack_at kind bytes
pack_computes kind bytes r h p = one_pack_read kind bytes r (pack_at kind bytes) p (pack_computed kind bytes h)

-- ---- random index packs

pub rip_computed : (width : ℕ) (bytes : List ℕ) → AreBytes bytes → ReadsRip width bytes (rip_at width bytes)
rip_computed width bytes h =
    let rest = length bytes - 4 in
    let front = take rest bytes in
    let last = drop rest bytes in
    let ok : Result RipParts PackFault = Ok (rip_parts width (entries_of front)) in
    let wrong : Result RipParts PackFault = Err faults.WrongLength in
    let short : Result RipParts PackFault = Err faults.Short in
    let fits = (rest % 12 == 0) && (big_number 4 last == 16 + width + length bytes) in
    elim (nat_le 4 (length bytes)) as (λ b. nat_le 4 (length bytes) ≡ b
    → ReadsRip width bytes (cond b (cond fits ok wrong) short)) [
      | true ↦ λ t. let long : 4 ≤ length bytes = leb-true 4 (length bytes) t in
          elim fits as (λ b. fits ≡ b → ReadsRip width bytes (cond b ok wrong)) [
            | true ↦ λ u.
                let both = and_parts (rest % 12 == 0) (big_number 4 last == 16 + width + length bytes) u in
                let whole : rest % 12 ≡ 0 = eqb-true (rest % 12) 0 both.0 in
                let number : big_number 4 last ≡ 16 + width + length bytes = eqb-true (big_number 4 last)
                (16 + width + length bytes) both.1 in
                let cut : length front ≡ rest = omega (arith, length-take rest bytes) in
                let entries = entries_are front (ap (λ (k : ℕ). k % 12) cut ∙ whole) (AreBytes-take rest bytes h) in (
                  refl,
                  rip_read width bytes front last refl refl (omega arith) (omega (arith, length-drop rest bytes))
                      (AreBytes-drop rest bytes h) number
                      entries.0 entries.1 (omega (arith, length-entries_of front)),
                )
            | false ↦ λ u. (
              long,
              elim (and_cases (rest % 12 == 0) (big_number 4 last == 16 + width + length bytes) u) [
                | inl p ↦ inl (λ e. let q = eq-eqb (rest % 12) 0 e in cc (p, q))
                | inr p ↦ inr (λ e. let q = eq-eqb (big_number 4 last) (16 + width + length bytes) e in cc (p, q))
              ],
            )
          ] refl
      | false ↦ λ f. leb-false 4 (length bytes) f
    ] refl

pub rip_computes : (width : ℕ) (bytes : List ℕ) (r : Result RipParts PackFault) → AreBytes bytes
    → ReadsRip width bytes r → r ≡ rip_at width bytes
rip_computes width bytes r h p = one_rip_read width bytes r (rip_at width bytes) p (rip_computed width bytes h)

-- ---- both ways

pub primer_iff : (bytes : List ℕ) (r : Result BatchParts PackFault) → AreBytes bytes
    → ReadsPrimer bytes r ↔ (r ≡ primer_at bytes)
primer_iff bytes r h = (primer_computes bytes r h, λ e. subst (ReadsPrimer bytes) (sym e) (primer_computed bytes h))

pub pack_iff : (kind : Kind) (bytes : List ℕ) (r : Result PartitionPackParts PackFault) → AreBytes bytes
    → ReadsPack kind bytes r ↔ (r ≡ pack_at kind bytes)
pack_iff kind bytes r h = grind (arith, pack_computed, pack_computes)

pub rip_iff : (width : ℕ) (bytes : List ℕ) (r : Result RipParts PackFault) → AreBytes bytes
    → ReadsRip width bytes r ↔ (r ≡ rip_at width bytes)
rip_iff width bytes r h = grind (arith, rip_computed, rip_computes)
