-- The cause of a finding of a random index pack is met at the offsets that are found of it, and at no others.
use Rattle.mxf_findings.proofs.Common.{◌≡◌, ℕ, ◌⊎◌, Bool, true, false, List, [], ◌∷◌, Some, None, refl, sym, ap, subst}
use Rattle.mxf_findings.proofs.Common.{◌∙◌, inl, inr, eqb-true, eq-eqb, map, ◌↔◌, ◌&&◌, ◌||◌, ◌==◌, nat_lt, not, filter}
use Rattle.mxf_findings.proofs.Common.{if◌then◌else◌, ltb-true, lt-ltb, or_cases, and_from, and_parts, NoteParts}
use Rattle.mxf_findings.proofs.Common.{end_of, kind_of, In, RipEntry, RipParts, rip_at, IsContent, IsClear, clear_notes}
use Rattle.mxf_findings.proofs.Common.{In-clear_notes, clear-alone, Whole, Broken, PartitionParts, chain_of}
use Rattle.mxf_findings.proofs.Common.{partitions_of, has_other_rip, is_unfit_rip, is_rip_note, rip_in, AtClear}
use Rattle.mxf_findings.proofs.Common.{IsReadable, IsReadAs, list_any-In, not-true-false, not_true, either}
use Rattle.mxf_findings.proofs.Common.{HangTogether, are_entries_of, ends_above, not_equal}
use Rattle.mxf_views.specs.declared.chain.Chain.{Chain}
use Rattle.mxf_findings.specs.Findings.{is_broken, is_index_of}
use Rattle.mxf_findings.specs.FindingCauses.{HasOther, IsNotLast, ListsOthers, entry_of}
use Rattle.mxf_findings.proofs.CauseLaws.{at_clear}
use Rattle.mxf_views.proofs.ReadingLaws.{reads}
use Rattle.mxf_views.proofs.ChainLaws.{chain_iff}
use Rattle.mxf_views.proofs.KindLaws.{rip_kind}
use Rattle.mxf_sets.proofs.RipLaws.{same_entry}
use Rattle.mxf_klv.specs.declared.kinds.Kind.TheVariants as kinds

rip_note_says : (n : NoteParts) → (is_rip_note n ≡ true) ↔ (kind_of n.key ≡ kinds.Rip)
unfolding is_rip_note
rip_note_says n = rip_kind (kind_of n.key)

lists_says : (ps : List PartitionParts) (es : List RipEntry) → (are_entries_of ps es ≡ true) ↔ (es ≡ map entry_of ps)
lists_says [] [] = (λ h. refl, λ h. refl)
lists_says [] (e ∷ es) = (λ h. absurd cc, λ h. absurd cc)
lists_says (p ∷ ps) [] = (λ h. absurd cc, λ h. absurd cc)
lists_says (p ∷ ps) (e ∷ es) =
    let ih = lists_says ps es in
    let sid = e.body_sid == p.pack.numbers.body_sid in
    let at = e.offset == p.offset in (
      λ h.
          let s = and_parts (sid && at) (are_entries_of ps es) h in
          let t = and_parts sid at s.0 in
          let one = same_entry e (entry_of p) (eqb-true e.body_sid p.pack.numbers.body_sid t.0)
          (eqb-true e.offset p.offset t.1) in
          let rest = ih.0 s.1 in
          λ i. one i ∷ rest i,
      λ q.
          let one : e ≡ entry_of p = cc (q) in
          let rest : es ≡ map entry_of ps = cc (q) in
          and_from (sid && at) (are_entries_of ps es)
          (and_from sid at (eq-eqb e.body_sid p.pack.numbers.body_sid (ap (λ (x : RipEntry). x.body_sid) one))
          (eq-eqb e.offset p.offset (ap (λ (x : RipEntry). x.offset) one))) (ih.1 rest),
    )

-- the random index pack of a note are_entries_of the partitions where it is readable and its entries are theirs
all_says : (ps : List PartitionParts) (n : NoteParts) → (is_index_of ps (rip_in n) ≡ true)
    ↔ ((rip : RipParts) × IsReadAs (rip_at n.width) n rip × (rip.entries ≡ map entry_of ps))
all_says ps n = (
  λ h. elim (rip_in n) as (λ q. rip_in n ≡ q → is_index_of ps q ≡ true
      → ((rip : RipParts) × IsReadAs (rip_at n.width) n rip × (rip.entries ≡ map entry_of ps))) [
        | None ↦ λ _ t. absurd cc
        | Some rip ↦ λ e t. (rip, (reads (rip_at n.width) n rip).0 e, (lists_says ps rip.entries).0 t)
      ] refl h,
  λ s. ap (is_index_of ps) ((reads (rip_at n.width) n s.0).1 s.1) ∙ (lists_says ps s.0.entries).1 s.2,
)

other_says : (notes : List NoteParts) (n : NoteParts) → IsClear n notes
    → (has_other_rip n (clear_notes notes) ≡ true) ↔ HasOther notes n
other_says notes n clear =
    let l = list_any-In (λ m. is_rip_note m && not (m.offset == n.offset)) (clear_notes notes) in (
      λ h.
          let s = l.0 h in
          let t = and_parts (is_rip_note s.0) (not (s.0.offset == n.offset)) s.2 in
          let apart = (not_equal s.0.offset n.offset).0 t.1 in
          let differ = λ (e : s.0 ≡ n). apart (ap (λ (x : NoteParts). x.offset) e) in
          (s.0, (In-clear_notes s.0 notes).0 s.1, differ, (rip_note_says s.0).0 t.0),
      λ s.
          let apart = (not_equal s.0.offset n.offset).1 (λ e. s.2 (clear-alone s.0 n notes s.1 clear.held e)) in
          l.1 (
            s.0,
            (In-clear_notes s.0 notes).1 s.1,
            and_from (is_rip_note s.0) (not (s.0.offset == n.offset)) ((rip_note_says s.0).1 s.3) apart,
          ),
    )

not_last_says : (notes : List NoteParts) (n : NoteParts) → (ends_above (end_of n) notes ≡ true) ↔ IsNotLast notes n
not_last_says notes n =
    let l = list_any-In (λ (m : NoteParts). m.whole && nat_lt (end_of n) (end_of m)) notes in (
      λ h.
          let s = l.0 h in
          let p = and_parts s.0.whole (nat_lt (end_of n) (end_of s.0)) s.2 in
          (s.0, s.1, p.0, ltb-true (end_of n) (end_of s.0) p.1),
      λ s. l.1 (s.0, s.1, and_from s.0.whole (nat_lt (end_of n) (end_of s.0)) s.2 (lt-ltb (end_of n) (end_of s.0) s.3)),
    )

-- why a random index pack doesn't fit
abbrev IsUnfit : List NoteParts → NoteParts → Type 0
IsUnfit notes n = ¬ IsReadable (rip_at n.width) n ⊎ (HasOther notes n ⊎ (IsNotLast notes n ⊎ ListsOthers notes n))

lists_not : (notes : List NoteParts) (n : NoteParts) → not (is_index_of (partitions_of notes) (rip_in n)) ≡ true
    → IsUnfit notes n
lists_not notes n h =
    let ps = partitions_of notes in
    let a = all_says ps n in
    elim (rip_in n) as (λ q. rip_in n ≡ q → IsUnfit notes n) [
      | None ↦ λ e. inl (λ s. let k = (reads (rip_at n.width) n s.0).1 s.1 in cc (k, e))
      | Some rip ↦ λ e.
          let r = (reads (rip_at n.width) n rip).0 e in
          inr (inr (inr (rip, r, λ same. not-true-false (is_index_of ps (rip_in n)) h (a.1 (rip, r, same)))))
    ] refl

unfit_says : (notes : List NoteParts) (n : NoteParts) → IsClear n notes → (is_unfit_rip notes n ≡ true)
    ↔ ((kind_of n.key ≡ kinds.Rip) × IsUnfit notes n)
unfit_says notes n clear =
    let ps = partitions_of notes in
    let other = has_other_rip n (clear_notes notes) in
    let above = ends_above (end_of n) notes in
    let all = is_index_of ps (rip_in n) in
    let a = all_says ps n in (
      λ h.
          let s = and_parts (is_rip_note n) (other || above || not all) h in (
            (rip_note_says n).0 s.0,
            elim (or_cases (other || above) (not all) s.1) [
              | inl t ↦ elim (or_cases other above t) [
                | inl u ↦ inr (inl ((other_says notes n clear).0 u))
                | inr u ↦ inr (inr (inl ((not_last_says notes n).0 u)))
              ]
              | inr t ↦ lists_not notes n t
            ],
          ),
      λ s. and_from (is_rip_note n) (other || above || not all) ((rip_note_says n).1 s.0)
          (either (other || above) (not all) (elim s.1 [
            | inl u ↦ inr (not_true all (λ t. let k = a.0 t in u (k.0, k.1)))
            | inr v ↦ elim v [
              | inl u ↦ inl (either other above (inl ((other_says notes n clear).1 u)))
              | inr w ↦ elim w [
                | inl u ↦ inl (either other above (inr ((not_last_says notes n).1 u)))
                | inr u ↦ inr (not_true all (λ t.
                    let k = a.0 t in
                    let x = (reads (rip_at n.width) n k.0).1 k.1 in
                    let y = (reads (rip_at n.width) n u.0).1 u.1 in
                    let same : k.0 ≡ u.0 = cc (x, y) in
                    u.2 (ap (λ (r : RipParts). r.entries) (sym same) ∙ k.2)))
              ]
            ]
          ])),
    )

pub unfit_random_index : (notes : List NoteParts) (o : ℕ)
    → In o (map (λ n. n.offset) (filter (is_unfit_rip notes) (clear_notes notes)))
    ↔ AtClear notes o (λ n. (kind_of n.key ≡ kinds.Rip)
    × (¬ IsReadable (rip_at n.width) n ⊎ (HasOther notes n ⊎ (IsNotLast notes n ⊎ ListsOthers notes n))))
unfit_random_index notes o =
    at_clear (is_unfit_rip notes) (λ n. (kind_of n.key ≡ kinds.Rip) × IsUnfit notes n) notes o (unfit_says notes)

-- ---- the chain

broken_says : (c : Chain) → (c ≡ Whole → ⊥) → is_broken c ≡ true
broken_says Whole h = absurd (h refl)
broken_says Broken h = refl

pub broken_chain : (notes : List NoteParts) (o : ℕ) → IsContent notes
    → In o (if is_broken (chain_of notes) then 0 ∷ [] else []) ↔ ((o ≡ 0) × ¬ HangTogether notes)
broken_chain notes o r =
    let c = chain_iff notes r in (
      λ h. elim (is_broken (chain_of notes)) as (λ b. is_broken (chain_of notes) ≡ b
          → In o (if b then 0 ∷ [] else []) → ((o ≡ 0) × ¬ HangTogether notes)) [
            | true ↦ λ t k. elim k [ inl e ↦ (e, λ w. let f = ap is_broken (c.1 w) in cc (f, t)) | inr m ↦ absurd m ]
            | false ↦ λ _ k. absurd k
          ] refl h,
      λ s.
          let t = broken_says (chain_of notes) (λ e. s.1 (c.0 e)) in
          subst (λ (b : Bool). In o (if b then 0 ∷ [] else [])) (sym t) (inl s.0),
    )
