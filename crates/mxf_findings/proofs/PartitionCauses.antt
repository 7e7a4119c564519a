-- What is found of partitions by their numbers is what is found of the partitions themselves.
use Rattle.mxf_findings.proofs.Common.{◌≡◌, ℕ, true, false, List, Some, None, refl, sym, ap, ◌∙◌, eqb-true, ◌&&◌, ◌==◌}
use Rattle.mxf_findings.proofs.Common.{find, filter, and_from, false_from_ne_true, and_parts, NoteParts, PartitionParts}
use Rattle.mxf_findings.proofs.Common.{is_footer, partitions_of, list_any-In, found-In, none_found, same_bool}
use Rattle.mxf_findings.proofs.Common.{footer_stands_at, cond, [], ◌∷◌, map, option_map, RipEntry, are_entries_of}
use Rattle.mxf_findings.specs.Findings.{is_partition_cause}
use Rattle.mxf_views.specs.Partitions.{in_numbers}
use Rattle.mxf_findings.specs.declared.finding.Code.{Code}
use Rattle.mxf_findings.specs.declared.finding.Code.TheVariants.{F05, F06, F07, F08}
use Rattle.mxf_views.proofs.PartitionSearch.{one_partition}

pub footer_found : (notes : List NoteParts) (o : ℕ) (p : PartitionParts)
    → find (λ p. p.offset == o) (partitions_of notes) ≡ Some p
    → footer_stands_at o (partitions_of notes) ≡ is_footer p.pack.part
footer_found notes o p e =
    let ps = partitions_of notes in
    let f = found-In (λ (p : PartitionParts). p.offset == o) ps p e in
    let test = λ (q : PartitionParts). is_footer q.pack.part && q.offset == o in
    same_bool (footer_stands_at o ps) (is_footer p.pack.part) (λ t.
    let s = (list_any-In test ps).0 t in
    let b = and_parts (is_footer s.0.pack.part) (s.0.offset == o) s.2 in
    let same : s.0 ≡ p = one_partition notes s.0 p s.1 f.0 (eqb-true s.0.offset o b.1
    ∙ sym (eqb-true p.offset o f.1)) in
    sym (ap (λ (q : PartitionParts). is_footer q.pack.part) same) ∙ b.0)
    (λ t. (list_any-In test ps).1 (p, f.0, and_from (is_footer p.pack.part) (p.offset == o) t f.1))

pub footer_lacked : (ps : List PartitionParts) (o : ℕ) → find (λ p. p.offset == o) ps ≡ None
    → footer_stands_at o ps ≡ false
footer_lacked ps o e =
    let test = λ (q : PartitionParts). is_footer q.pack.part && q.offset == o in
    false_from_ne_true (footer_stands_at o ps) (λ t.
    let s = (list_any-In test ps).0 t in
    none_found (λ (p : PartitionParts). p.offset == o) ps s.0 e s.1 (and_parts (is_footer s.0.pack.part)
    (s.0.offset == o) s.2).1)

pub cause_in_numbers : (code : Code) (ps : List PartitionParts) (p : PartitionParts)
    → is_partition_cause code ps (in_numbers p) ≡ is_partition_cause code ps p
cause_in_numbers F05 ps p = refl
cause_in_numbers F06 ps p = refl
cause_in_numbers F07 ps p = refl
cause_in_numbers F08 ps p = refl
cause_in_numbers _ ps p = refl

pub causes_in_numbers : (code : Code) (all ps : List PartitionParts)
    → map (λ p. p.offset) (filter (is_partition_cause code all) (map in_numbers ps))
    ≡ map (λ p. p.offset) (filter (is_partition_cause code all) ps)
causes_in_numbers code all [] = refl
causes_in_numbers code all (p ∷ ps) =
    let ih = causes_in_numbers code all ps in
    let test = is_partition_cause code all in
    let offset = λ (q : PartitionParts). q.offset in
    ap (λ b. map offset (cond b (in_numbers p ∷ filter test (map in_numbers ps)) (filter test (map in_numbers ps))))
    (cause_in_numbers code all p)
    ∙ elim (test p) as (λ b. map offset (cond b (in_numbers p ∷ filter test (map in_numbers ps))
    (filter test (map in_numbers ps))) ≡ map offset (cond b (p ∷ filter test ps) (filter test ps))) [
      | true ↦ ap (λ l. p.offset ∷ l) ih
      | false ↦ ih
    ]

pub footer_there : (notes : List NoteParts) (o : ℕ) (q : PartitionParts)
    → Some q ≡ option_map in_numbers (find (λ p. p.offset == o) (partitions_of notes))
    → is_footer q.pack.part ≡ footer_stands_at o (partitions_of notes)
footer_there notes o q e =
    let at = λ (p : PartitionParts). p.offset == o in
    elim (find at (partitions_of notes)) as (λ f. find at (partitions_of notes) ≡ f → Some q ≡ option_map in_numbers f
    → is_footer q.pack.part ≡ footer_stands_at o (partitions_of notes)) [
      | None ↦ λ f u. absurd cc
      | Some p ↦ λ f u. (
          let same : q ≡ in_numbers p = cc (u) in
          ap (λ (x : PartitionParts). is_footer x.pack.part) same ∙ sym (footer_found notes o p f))
    ] refl e

pub footer_not_there : (ps : List PartitionParts) (o : ℕ)
    → None ≡ option_map in_numbers (find (λ p. p.offset == o) ps) → false ≡ footer_stands_at o ps
footer_not_there ps o e =
    let at = λ (p : PartitionParts). p.offset == o in
    elim (find at ps) as (λ f. find at ps ≡ f → None ≡ option_map in_numbers f → false ≡ footer_stands_at o ps) [
      | None ↦ λ f u. sym (footer_lacked ps o f)
      | Some p ↦ λ f u. absurd cc
    ] refl e

-- ---- random index packs

pub entries_in_numbers : (ps : List PartitionParts) (es : List RipEntry)
    → are_entries_of (map in_numbers ps) es ≡ are_entries_of ps es
entries_in_numbers [] es = refl
entries_in_numbers (p ∷ ps) [] = refl
entries_in_numbers (p ∷ ps) (e ∷ es) =
    ap (λ b. (e.body_sid == p.pack.numbers.body_sid && e.offset == p.offset) && b) (entries_in_numbers ps es)
