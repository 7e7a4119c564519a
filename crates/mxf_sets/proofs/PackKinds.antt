-- The kinds of partition packs, by their parts and statuses.
use Rattle.mxf_klv.proofs.Common.{Bool, Err, List, Ok, Some, ap, cond, drop, false, is_some, length, nat_le, refl, sym}
use Rattle.mxf_klv.proofs.Common.{true, ℕ, ◌∙◌, ◌≡◌, result_ok}
use Rattle.mxf_klv.specs.declared.kinds.Kind.{Kind}
use Rattle.mxf_klv.specs.declared.kinds.Status.{Status}
use Rattle.mxf_sets.specs.Fields.{is_batch}
use Rattle.mxf_sets.specs.PackReadings.{pack_at, pack_in, pack_under, part_and_status}
use Rattle.mxf_sets.specs.PartitionPack.{IsPartitionKind, PartitionPackParts, pack_kind}
use Rattle.mxf_sets.specs.declared.pack.part.PackPart.{PackPart}
use Rattle.mxf_sets.specs.declared.pack.part.PackPart.TheVariants.{Body, Footer, Header}
use Rattle.mxf_klv.specs.declared.kinds.Kind.TheVariants as kinds
use Rattle.mxf_sets.specs.declared.pack.PackFault.TheVariants as faults

pub pack_kind_tells : (part : PackPart) → (s : Status) → is_some (part_and_status (pack_kind part s)) ≡ true
pack_kind_tells Header s = refl
pack_kind_tells Body s = refl
pack_kind_tells Footer s = refl

pub kind_says : (k : Kind) → is_some (part_and_status k) ≡ true → IsPartitionKind k
kind_says (kinds.Header s) h = (Header, s, refl)
kind_says (kinds.Body s) h = (Body, s, refl)
kind_says (kinds.Footer s) h = (Footer, s, refl)
kind_says _ h = absurd cc

pub kind_tells : (k : Kind) → IsPartitionKind k → is_some (part_and_status k) ≡ true
kind_tells k s = ap (λ (x : Kind). is_some (part_and_status x)) s.2 ∙ pack_kind_tells s.0 s.1

-- The part and the status of a pack are those that its key tells.
pub part_is : (key : PackPart × Status) (v : List ℕ) (pack : PartitionPackParts)
    → result_ok (pack_under (Some key) v) ≡ Some pack → (pack.part ≡ key.0) × (pack.status ≡ key.1)
part_is key v pack e = elim (nat_le 88 (length v)) as (λ b.
    result_ok (cond b (cond (is_batch 16 (drop 80 v)) (Ok (pack_in key v)) (Err faults.BadBatch)) (Err faults.Short))
    ≡ Some pack → (pack.part ≡ key.0) × (pack.status ≡ key.1)) [
      | true ↦ elim (is_batch 16 (drop 80 v)) as (λ b.
          result_ok (cond b (Ok (pack_in key v)) (Err faults.BadBatch)) ≡ Some pack
          → (pack.part ≡ key.0) × (pack.status ≡ key.1)) [
            | true ↦ λ f.
                let same : pack_in key v ≡ pack = cc (f) in (
                  ap (λ (x : PartitionPackParts). x.part) (sym same),
                  ap (λ (x : PartitionPackParts). x.status) (sym same),
                )
            | false ↦ λ f. cc
          ]
      | false ↦ λ f. cc
    ] e

-- The kind that a pack is read under is that of its part and status.
pub kind_is : (kind : Kind) (v : List ℕ) (pack : PartitionPackParts) → result_ok (pack_at kind v) ≡ Some pack
    → kind ≡ pack_kind pack.part pack.status
kind_is (kinds.Header s) v pack e = let h = part_is (Header, s) v pack e in λ i. pack_kind (sym h.0 i) (sym h.1 i)
kind_is (kinds.Body s) v pack e = let h = part_is (Body, s) v pack e in λ i. pack_kind (sym h.0 i) (sym h.1 i)
kind_is (kinds.Footer s) v pack e = let h = part_is (Footer, s) v pack e in λ i. pack_kind (sym h.0 i) (sym h.1 i)
kind_is _ v pack e = cc

abbrev pub is_pack_kind : Kind → Bool
is_pack_kind (kinds.Header s) = true
is_pack_kind (kinds.Body s) = true
is_pack_kind (kinds.Footer s) = true
is_pack_kind _ = false

abbrev pub is_header_kind : Kind → Bool
is_header_kind (kinds.Header s) = true
is_header_kind _ = false

abbrev pub is_footer_kind : Kind → Bool
is_footer_kind (kinds.Footer s) = true
is_footer_kind _ = false

pub packs : (part : PackPart) (status : Status) → is_pack_kind (pack_kind part status) ≡ true
packs Header s = refl
packs Body s = refl
packs Footer s = refl
