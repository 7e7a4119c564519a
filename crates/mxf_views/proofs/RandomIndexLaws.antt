-- The random index pack, and how its entries stand to the partitions.
use Rattle.mxf_views.proofs.Common.{◌≡◌, ℕ, Bool, true, false, cond, List, [], ◌∷◌, Some, None, refl, sym, ap, subst}
use Rattle.mxf_views.proofs.Common.{◌∙◌, inl, inr, eqb-true, eq-eqb, ◌↔◌, ◌==◌, find, NoteParts, kind_of, In, rip_at}
use Rattle.mxf_views.proofs.Common.{IsContent, AreApart, clear_notes, In-clear_notes, AreApart-clear_notes}
use Rattle.mxf_views.proofs.Common.{AreApart-filter, AreInOrder, PartitionParts, partitions_of, is_rip, is_rip_note}
use Rattle.mxf_views.proofs.Common.{rip_in, rips_of, standing_of, rip_view_among, rip_view_by, rip_view_of, In-filter}
use Rattle.mxf_views.proofs.Common.{found-In, none_found, find-none, find-only, false_from_ne_true, later_differs}
use Rattle.mxf_views.proofs.Common.{picked_none, picked_one, picked_several, RipAtParts}
use Rattle.mxf_sets.specs.declared.pack.random_index.RipEntry.{RipEntry}
use Rattle.mxf_views.specs.declared.random_index.RipView.TheVariants.{One, Absent, Several, Unreadable}
use Rattle.mxf_views.specs.declared.random_index.Standing.{Standing}
use Rattle.mxf_views.specs.declared.random_index.RipView.{RipView}
use Rattle.mxf_views.specs.RandomIndex.{standing_by, IsClearRip, IsOnlyRip, IsStanding}
use Rattle.mxf_views.specs.RandomIndexView.{IsRipView}
use Rattle.mxf_views.specs.declared.random_index.Standing.TheVariants.{Held, Differs, Missing}
use Rattle.mxf_views.proofs.KindLaws.{rip_kind}
use Rattle.mxf_views.proofs.PartitionLaws.{one_there, partitions_rise}
use Rattle.mxf_views.proofs.ReadingLaws.{reads}

-- ---- standings

standing_is : (ps : List PartitionParts) (entry : RipEntry) → IsStanding ps entry (standing_of ps entry)
standing_is ps entry =
    let at = λ (p : PartitionParts). p.offset == entry.offset in
    elim (find at ps) as (λ o. find at ps ≡ o → IsStanding ps entry (standing_by entry o)) [
      | None ↦ λ e p h same. none_found at ps p e h (eq-eqb p.offset entry.offset same)
      | Some p ↦ λ e.
          let s = found-In at ps p e in
          let there = eqb-true p.offset entry.offset s.1 in
          let sid = p.pack.numbers.body_sid in
          elim (sid == entry.body_sid) as (λ b. (sid == entry.body_sid) ≡ b
          → IsStanding ps entry (cond b Held Differs)) [
            | true ↦ λ t. (p, s.0, there, eqb-true sid entry.body_sid t)
            | false ↦ λ t. (p, s.0, there, λ same. let u = eq-eqb sid entry.body_sid same in cc (t, u))
          ] refl
    ] refl

found_there : (ps : List PartitionParts) (entry : RipEntry) (p : PartitionParts) → AreInOrder ps → In p ps
    → p.offset ≡ entry.offset → find (λ q. q.offset == entry.offset) ps ≡ Some p
found_there ps entry p r h e = find-only (λ q. q.offset == entry.offset) ps p h (eq-eqb p.offset entry.offset e)
    (λ q k t. one_there ps q p r k h (eqb-true q.offset entry.offset t ∙ sym e))

standing_to : (ps : List PartitionParts) (entry : RipEntry) → AreInOrder ps → (s : Standing) → IsStanding ps entry s
    → standing_of ps entry ≡ s
standing_to ps entry r Held i =
    let sid = i.0.pack.numbers.body_sid in
    ap (standing_by entry) (found_there ps entry i.0 r i.1 i.2)
    ∙ ap (λ (b : Bool). cond b Held Differs) (eq-eqb sid entry.body_sid i.3)
standing_to ps entry r Differs i =
    let sid = i.0.pack.numbers.body_sid in
    let f : (sid == entry.body_sid) ≡ false = false_from_ne_true (sid == entry.body_sid)
    (λ t. i.3 (eqb-true sid entry.body_sid t)) in
    ap (standing_by entry) (found_there ps entry i.0 r i.1 i.2) ∙ ap (λ (b : Bool). cond b Held Differs) f
standing_to ps entry r Missing i = ap (standing_by entry) (find-none (λ q. q.offset == entry.offset) ps
    (λ q h t. i q h (eqb-true q.offset entry.offset t)))

-- An entry stands as the partition at its offset says.
pub standing_iff : (notes : List NoteParts) (entry : RipEntry) (s : Standing) → IsContent notes
    → (standing_of (partitions_of notes) entry ≡ s) ↔ IsStanding (partitions_of notes) entry s
standing_iff notes entry s r =
    let ps = partitions_of notes in (
      λ e. subst (IsStanding ps entry) e (standing_is ps entry),
      λ i. standing_to ps entry (partitions_rise notes r) s i,
    )

-- ---- the random index packs

-- the clear random index packs
abbrev Picks : List NoteParts → List NoteParts → Type 0
Picks notes rips = (n : NoteParts) → In n rips ↔ IsClearRip notes n

picks : (notes : List NoteParts) → Picks notes (rips_of notes)
unfolding rips_of is_rip_note
picks notes n =
    let f = In-filter is_rip_note (clear_notes notes) n in
    let c = In-clear_notes n notes in (
      λ h. let s = f.0 h in record { clear = c.0 s.0; kind = (rip_kind (kind_of n.key)).0 s.1 },
      λ i. f.1 (c.1 i.clear, ap is_rip i.kind),
    )

rips_apart : (notes : List NoteParts) → IsContent notes → AreApart 0 (rips_of notes)
unfolding rips_of
rips_apart notes r = AreApart-filter is_rip_note 0 (clear_notes notes) (AreApart-clear_notes notes r)

-- ---- what is known of them

only_from : (notes : List NoteParts) (n : NoteParts) → Picks notes (n ∷ []) → IsOnlyRip notes n
only_from notes n w = record {
  held = (w n).0 (inl refl);
  only = λ m i. elim ((w m).1 i) [ inl e ↦ e | inr k ↦ absurd k ];
}

view_is : (notes rips : List NoteParts) → Picks notes rips → AreApart 0 rips
    → IsRipView notes (rip_view_among (partitions_of notes) rips)
view_is notes [] w a = λ n i. (w n).1 i
view_is notes (n ∷ []) w a =
    let o = only_from notes n w in
    elim (rip_in n) as (λ r. rip_in n ≡ r → IsRipView notes (rip_view_by (partitions_of notes) n.offset r)) [
      | None ↦ λ e. (n, o, refl, λ rip i. let f = (reads (rip_at n.width) n rip).1 i in cc (e, f))
      | Some rip ↦ λ e. (n, o, (rip, (reads (rip_at n.width) n rip).0 e, refl))
    ] refl
view_is notes (m ∷ n ∷ rips) w a = record {
  one = m;
  other = n;
  one_held = (w m).0 (inl refl);
  other_held = (w n).0 (inr (inl refl));
  differ = later_differs m n rips a;
}

only_of : (notes rips : List NoteParts) → Picks notes rips → AreApart 0 rips → (n : NoteParts) → IsOnlyRip notes n
    → rips ≡ n ∷ []
only_of notes rips w a n o = picked_one (IsClearRip notes) rips w a n o.held o.only

view_to : (notes rips : List NoteParts) → Picks notes rips → AreApart 0 rips → (v : RipView)
    → IsRipView notes v → rip_view_among (partitions_of notes) rips ≡ v
view_to notes rips w a Absent i = ap (rip_view_among (partitions_of notes)) (picked_none (IsClearRip notes) rips w i)
view_to notes rips w a Several i =
    let s = picked_several (IsClearRip notes) rips w i.one i.other i.one_held i.other_held i.differ in
    ap (rip_view_among (partitions_of notes)) s.3
view_to notes rips w a (Unreadable offset) i =
    let n = i.0 in
    let none : rip_in n ≡ None = elim (rip_in n) as (λ r. rip_in n ≡ r → r ≡ None) [
      | None ↦ λ _. refl
      | Some rip ↦ λ e. absurd (i.3 rip ((reads (rip_at n.width) n rip).0 e))
    ] refl in
    ap (rip_view_among (partitions_of notes)) (only_of notes rips w a n i.1)
    ∙ ap (rip_view_by (partitions_of notes) n.offset) none ∙ ap (λ (x : ℕ). Unreadable x) i.2
view_to notes rips w a (One r) i =
    let n = i.0 in
    ap (rip_view_among (partitions_of notes)) (only_of notes rips w a n i.1)
    ∙ ap (rip_view_by (partitions_of notes) n.offset) ((reads (rip_at n.width) n i.2.0).1 i.2.1)
    ∙ ap (λ (x : RipAtParts). One x) i.2.2

-- What is known is by the number of the clear random index packs.
pub rip_view_iff : (notes : List NoteParts) (v : RipView) → IsContent notes
    → (rip_view_of notes ≡ v) ↔ IsRipView notes v
rip_view_iff notes v r =
    let rips = rips_of notes in
    let a = rips_apart notes r in
    let w = picks notes in (λ e. subst (IsRipView notes) e (view_is notes rips w a), λ i. view_to notes rips w a v i)
