-- What is kept of the clear notes: lists that rise by a key of each element, which is the offset of its note; and what
-- adding a note changes of them.
use Rattle.mxf_views.proofs.Common.{◌≡◌, ◌≢◌, ℕ, ◌≤◌, ◌⊎◌, true, List, Option, Some, None, refl, sym, ap, subst, ◌∙◌}
use Rattle.mxf_views.proofs.Common.{inl, inr, arith, eqb-true, eq-eqb, ◌↔◌, ◌==◌, find, option_and_then, NoteParts}
use Rattle.mxf_views.proofs.Common.{end_of, In, IsContent, reduced_with, IsClear, clear_notes, In-clear_notes}
use Rattle.mxf_views.proofs.Common.{clear-alone, AreApart-clear_notes, IsHull, In-filter, In-filter_map, found-In}
use Rattle.mxf_views.proofs.Common.{none_found, find-none, find-only, IsContent-reduced_with, clear_at-found, IsNew}
use Rattle.mxf_views.proofs.Common.{clear_after, rises-filter, is_outside, followed, kept_among, kept_at, outside}
use Rattle.mxf_views.proofs.Common.{with_found, with_keyed, Bool, false, [], ◌∷◌, cond, cons_option, filter, filter_map}
use Rattle.mxf_views.proofs.Common.{is_kept, is_some, offset_if, In-map, SharesByte, map, option_map, rises-map}
use Rattle.mxf_views.proofs.Common.{IsRisingBy, same_by_members}
use Rattle.mxf_catalogue.proofs.ApartLaws.{apart_rises}
use Rattle.mxf_klv.proofs.RisingBy.{rises-filter_map}
use Rattle.mxf_views.specs.Kept.{notes_at}
use Rattle.mxf_catalogue.proofs.ClearLaws.{In-with_new}
use Rattle.std.proofs.lemmas.List.{map-id}
use Rattle.mxf_views.proofs.ClearChanges.{outside_iff, outside_says}
use Rattle.mxf_views.proofs.KeyedLists.{In-with_keyed, rises-with_keyed}

pub one_note : (notes : List NoteParts) (m n : NoteParts) → IsClear m notes → IsClear n notes
    → m.offset ≡ n.offset → m ≡ n
one_note notes m n c d e = clear-alone m n notes c d.held e

pub kept_if : (test : NoteParts → Bool) (n : NoteParts) → is_kept (λ n. offset_if (test n) n) n ≡ test n
kept_if test n = elim (test n) as (λ b. is_some (offset_if b n) ≡ b) [ true ↦ refl | false ↦ refl ]

module _ {A : Type 0} (take : NoteParts → Option A) (key : A → ℕ)
    (own : (n : NoteParts) (x : A) → take n ≡ Some x → key x ≡ n.offset) where
  pub In-kept : (notes : List NoteParts) (x : A)
      → In x (kept_among take notes) ↔ ((n : NoteParts) × IsClear n notes × (take n ≡ Some x))
  In-kept notes x =
      let m = In-filter_map take (clear_notes notes) x in
      let c = λ (n : NoteParts). In-clear_notes n notes in (
        λ h. let s = m.0 h in (s.0, (c s.0).0 s.1, s.2),
        λ s. m.1 (s.0, (c s.0).1 s.1, s.2),
      )

  pub kept_rise : (notes : List NoteParts) → IsContent notes → IsRisingBy key (kept_among take notes)
  kept_rise notes r = rises-filter_map (λ n. n.offset) take key (clear_notes notes) own
      (apart_rises 0 (clear_notes notes) (AreApart-clear_notes notes r))

  pub one_kept : (notes : List NoteParts) (x y : A) → In x (kept_among take notes) → In y (kept_among take notes)
      → key x ≡ key y → x ≡ y
  one_kept notes x y h k e =
      let a = (In-kept notes x).0 h in
      let b = (In-kept notes y).0 k in
      let same = one_note notes a.0 b.0 a.1 b.1 (sym (own a.0 x a.2) ∙ e ∙ own b.0 y b.2) in
      let some : Some x ≡ Some y = sym a.2 ∙ ap take same ∙ b.2 in cc some

  pub kept_found : (notes : List NoteParts) (x : A) → In x (kept_among take notes)
      → find (λ y. key y == key x) (kept_among take notes) ≡ Some x
  kept_found notes x h = find-only (λ (y : A). key y == key x) (kept_among take notes) x h (eq-eqb (key x) (key x) refl)
      (λ y k t. one_kept notes y x k h (eqb-true (key y) (key x) t))

  -- What is kept at an offset is that of the clear note there.
  pub kept_there : (notes : List NoteParts) (o : ℕ) (found : Option NoteParts)
      → found ≡ find (λ n. n.offset == o) (clear_notes notes)
      → option_and_then take found ≡ find (λ x. key x == o) (kept_among take notes)
  kept_there notes o None e = sym (find-none (λ (x : A). key x == o) (kept_among take notes) (λ x h t.
      let a = (In-kept notes x).0 h in
      none_found (λ (n : NoteParts). n.offset == o) (clear_notes notes) a.0 (sym e) ((In-clear_notes a.0 notes).1 a.1)
      (eq-eqb a.0.offset o (sym (own a.0 x a.2) ∙ eqb-true (key x) o t))))
  kept_there notes o (Some n) e =
      let f = found-In (λ (n : NoteParts). n.offset == o) (clear_notes notes) n (sym e) in
      let clear = (In-clear_notes n notes).0 f.0 in
      let at : n.offset ≡ o = eqb-true n.offset o f.1 in
      elim (take n) as (λ x. take n ≡ x → x ≡ find (λ y. key y == o) (kept_among take notes)) [
        | None ↦ λ u. sym (find-none (λ (x : A). key x == o) (kept_among take notes) (λ x h t.
            let a = (In-kept notes x).0 h in
            let same : a.0 ≡ n = one_note notes a.0 n a.1 clear (sym (own a.0 x a.2) ∙ eqb-true (key x) o t ∙ sym at) in
            let none : Some x ≡ None = sym a.2 ∙ ap take same ∙ u in cc none))
        | Some x ↦ λ u.
            let there = (In-kept notes x).1 (n, clear, u) in
            let q : key x ≡ o = own n x u ∙ at in
            sym (find-only (λ (x : A). key x == o) (kept_among take notes) x there (eq-eqb (key x) o q)
            (λ y h t. one_kept notes y x h there (eqb-true (key y) o t ∙ sym q)))
      ] refl

  notes_there : (notes ns : List NoteParts) → ((n : NoteParts) → In n ns → IsClear n notes)
      → notes_at key notes (filter_map take ns) ≡ filter (is_kept take) ns
  notes_there notes [] clear = refl
  notes_there notes (n ∷ ns) clear =
      let ih = notes_there notes ns (λ m h. clear m (inr h)) in
      elim (take n) as (λ o. take n ≡ o → notes_at key notes (cons_option o (filter_map take ns))
      ≡ cond (is_some o) (n ∷ filter (is_kept take) ns) (filter (is_kept take) ns)) [
        | None ↦ λ e. ih
        | Some x ↦ λ e. ap (λ o. cons_option o (notes_at key notes (filter_map take ns)))
            (clear_at-found (key x) notes n (clear n (inl refl)) (sym (own n x e))) ∙ ap (λ l. n ∷ l) ih
      ] refl

  -- The notes at the keys of what is kept are those that it is kept of.
  pub notes_kept : (notes : List NoteParts)
      → notes_at key notes (kept_among take notes) ≡ filter (is_kept take) (clear_notes notes)
  notes_kept notes = notes_there notes (clear_notes notes) (λ n. (In-clear_notes n notes).0)

-- ---- once a note was added

-- What is kept of a note may be made anew then, under its key.
module _ {A : Type 0} (before after : NoteParts → Option A) (renew : A → A) (key : A → ℕ)
    (own : (n : NoteParts) (z : A) → before n ≡ Some z → key z ≡ n.offset)
    (own_after : (n : NoteParts) (z : A) → after n ≡ Some z → key z ≡ n.offset)
    (one_key : (z : A) → key (renew z) ≡ key z)
    (x : NoteParts) (notes : List NoteParts) (start end : ℕ) (r : IsContent notes) (new : IsNew x notes)
    (h : IsHull x notes start end)
    (stays : (n : NoteParts) → IsClear n notes → (SharesByte x n → ⊥) → after n ≡ option_map renew (before n)) where
  abbrev now : List NoteParts
  now = reduced_with x notes

  abbrev old : List A
  old = outside key start end (kept_among before notes)

  abbrev left : List A
  left = map renew old

  -- What is kept at the new note's offset is what is kept of it, where it is clear.
  new_at : (y : A) → (kept_at after now x.offset ≡ Some y) ↔ (IsClear x now × (after x ≡ Some y))
  new_at y =
      let at = λ (n : NoteParts). n.offset == x.offset in (
        λ t. elim (find at (clear_notes now)) as (λ o. find at (clear_notes now) ≡ o
            → option_and_then after o ≡ Some y → IsClear x now × (after x ≡ Some y)) [
              | None ↦ λ e f. absurd cc
              | Some n ↦ λ e f. (
                  let k = found-In at (clear_notes now) n e in
                  let clear = (In-clear_notes n now).0 k.0 in
                  let held = (In-with_new x x notes new).1 (inl refl) in
                  let same : n ≡ x = clear-alone n x now clear held (eqb-true n.offset x.offset k.1) in
                  subst (λ (m : NoteParts). IsClear m now × (after m ≡ Some y)) same (clear, f))
            ] refl t,
        λ s. ap (option_and_then after) (clear_at-found x.offset now x s.0 refl) ∙ s.1,
      )

  left_is : (y : A) → In y left → In y (kept_among after now) × (is_outside start end (key y) ≡ true)
  left_is y k =
      let s = (In-map renew old y).0 k in
      let f = (In-filter (λ (z : A). is_outside start end (key z)) (kept_among before notes) s.0).0 s.1 in
      let a = (In-kept before key own notes s.0).0 f.0 in
      let out = ap (is_outside start end) (sym (own a.0 s.0 a.2)) ∙ f.1 in
      let far = (outside_iff x a.0 notes start end h a.1).1 out in
      let kept = stays a.0 a.1 far ∙ ap (option_map renew) a.2 ∙ ap Some (sym s.2) in (
        (In-kept after key own_after now y).1 (a.0, (clear_after x notes new a.0).1 (inr (a.1, far)), kept),
        ap (λ z. is_outside start end (key z)) s.2 ∙ ap (is_outside start end) (one_key s.0) ∙ f.1,
      )

  is_left : (y : A) → In y (kept_among after now) → (kept_at after now x.offset ≡ Some y) ⊎ In y left
  is_left y k =
      let a = (In-kept after key own_after now y).0 k in
      elim ((clear_after x notes new a.0).0 a.1) [
        | inl p ↦ inl ((new_at y).1 (p.1, ap after (sym p.0) ∙ a.2))
        | inr q ↦ inr (elim (before a.0) as (λ o. before a.0 ≡ o → option_map renew o ≡ Some y → In y left) [
          | None ↦ λ e f. absurd cc
          | Some z ↦ λ e f.
              let same : renew z ≡ y = cc (f) in
              let out = (outside_iff x a.0 notes start end h q.0).0 q.1 in
              (In-map renew old y).1 (
                z,
                (In-filter (λ (z : A). is_outside start end (key z)) (kept_among before notes) z).1 (
                  (In-kept before key own notes z).1 (a.0, q.0, e),
                  ap (is_outside start end) (own a.0 z e) ∙ out,
                ),
                sym same,
              )
        ] refl (sym (stays a.0 q.0 q.1) ∙ a.2))
      ]

  left_rises : IsRisingBy key left
  left_rises = rises-map key renew key old (λ z h. one_key z)
      (rises-filter key (λ z. is_outside start end (key z)) (kept_among before notes)
      (kept_rise before key own notes r))

  -- So what follows the arrival is what is kept of the notes with it.
  pub renewed_follow : with_found key (kept_at after (reduced_with x notes) x.offset)
      (map renew (outside key start end (kept_among before notes))) ≡ kept_among after (reduced_with x notes)
  renewed_follow =
      let all = kept_among after now in
      let all_rise = kept_rise after key own_after now (IsContent-reduced_with x notes r) in
      elim (kept_at after now x.offset) as (λ o. kept_at after now x.offset ≡ o
      → with_found key o left ≡ all) [
        | None ↦ λ e. same_by_members key left all left_rises all_rise (λ y. (
          λ k. (left_is y k).0,
          λ k. elim (is_left y k) [ inl s ↦ absurd (let n = sym s ∙ e in cc n) | inr i ↦ i ],
        ))
        | Some z ↦ λ e. (
            let own_new = (new_at z).0 e in
            let at : key z ≡ x.offset = own_after x z own_new.1 in
            let other : (y : A) → In y left → key y ≢ key z = λ y k q.
            let high : end_of x ≤ end = h.high in
            outside_says start end x.offset (ap (is_outside start end) (sym at ∙ sym q) ∙ (left_is y k).1) h.low
            (omega (arith, high)) in
            same_by_members key (with_keyed key z left) all (rises-with_keyed key z left left_rises other) all_rise
            (λ y.
            let w = In-with_keyed key z y left in (
              λ k. elim (w.0 k) [
                | inl q ↦ subst (λ (v : A). In v all) (sym q)
                    ((In-kept after key own_after now z).1 (x, own_new.0, own_new.1))
                | inr i ↦ (left_is y i).0
              ],
              λ k. w.1 (elim (is_left y k) [
                | inl s ↦ inl (let n : Some y ≡ Some z = sym s ∙ e in cc n)
                | inr i ↦ inr i
              ]),
            )))
      ] refl

-- Or it stays as it is.
pub kept_follow : {A : Type 0} (take : NoteParts → Option A) (key : A → ℕ)
    → ((n : NoteParts) (z : A) → take n ≡ Some z → key z ≡ n.offset) → (x : NoteParts) (notes : List NoteParts)
    (start end : ℕ) → IsContent notes → IsNew x notes → IsHull x notes start end
    → followed key (kept_at take (reduced_with x notes) x.offset) start end (kept_among take notes)
    ≡ kept_among take (reduced_with x notes)
kept_follow {A = A} take key own x notes start end r new h =
    ap (with_found key (kept_at take (reduced_with x notes) x.offset))
    (sym (map-id (outside key start end (kept_among take notes))))
    ∙ renewed_follow take take (λ z. z) key own own (λ z. refl) x notes start end r new h (λ n _ _. itself (take n))
  where
    itself : (o : Option A) → o ≡ option_map (λ z. z) o
    itself None = refl
    itself (Some z) = refl
