-- The front of what is looked for of a section.
use Rattle.mxf_views.proofs.Common.{◌≡◌, ◌↔◌, ◌⊎◌, ◌∙◌, ◌<◌, ◌≤◌, ◌+◌, ◌==◌, ℕ, not, min, IsTrue, Option, None, Some}
use Rattle.mxf_views.proofs.Common.{option_map, unwrap_or, List, [], ◌∷◌, arith, refl, sym, ap, subst, inl, inr}
use Rattle.mxf_views.proofs.Common.{same_Some, NoteParts, greatest_end, In, not_equal, same_bool, IsContent, IsCover}
use Rattle.mxf_views.proofs.Common.{LiesIn, covers_first}
use Rattle.std.specs.List.{slice_get}
use Rattle.mxf_places.specs.AtHand.{AtHandParts, LiesBetween, has_offsets}
use Rattle.mxf_places.specs.declared.at_hand.OffsetRange.{OffsetRange}
use Rattle.mxf_places.proofs.AtHandLaws.{Rise, has_offsets-says, rise_above}
use Rattle.mxf_restore.specs.Fronts.{IsFront, IsLookedFor, all_from, front_by, front_of, front_range, looked_for}
use Rattle.mxf_restore.specs.Orders.{IsAsked, IsPart, IsStartOf}
use Rattle.mxf_restore.specs.Plan.{asked_of, part_order, parts_of}
use Rattle.mxf_places.specs.Heads.{start_of}
use Rattle.mxf_restore.specs.declared.section.Section.{Section}
use Rattle.mxf_restore.specs.declared.plan.Order.{Order}
use Rattle.mxf_restore.proofs.AskedLaws.{asked_law}
use Rattle.mxf_restore.proofs.OrderStarts.{parts_rise}
use Rattle.mxf_restore.proofs.PartLaws.{parts_say}
use Rattle.mxf_restore.proofs.StartLaws.{start_is, start_says}
use Rattle.mxf_restore.proofs.Options.{some_from}

first_is : (xs : List OffsetRange) (r : OffsetRange) → slice_get xs 0 ≡ Some r
    → (later : List OffsetRange) × (xs ≡ r ∷ later)
first_is [] r e = absurd cc
first_is (x ∷ xs) r e = (xs, ap (λ (y : OffsetRange). y ∷ xs) (same_Some x r e))

-- The end of the first bytes of a range.
abbrev end_of_front : OffsetRange → ℕ
end_of_front r = min (r.start + 65536) (unwrap_or r.end greatest_end)

module _ (at : AtHandParts) (notes : List NoteParts) (p : Section) where
  looked : IsContent notes → IsCover at.given → (o : Order) → (looked_for at notes p ≡ o) ↔ IsLookedFor at notes p o
  looked content cover o =
      let all = all_from (start_of notes p.first) in
      elim (asked_of at notes p) as (λ a. asked_of at notes p ≡ a → (unwrap_or a all ≡ o) ↔ IsLookedFor at notes p o) [
        | None ↦ λ f. (
          λ e. inr (
            λ a k. let g = (asked_law at notes content cover p a).1 k in cc (f, g),
            (start_of notes p.first, start_is notes content p.first, sym e),
          ),
          λ h. elim h [
            | inl k ↦ absurd (let g = (asked_law at notes content cover p o).1 k in cc (f, g))
            | inr k ↦ ap all_from ((start_says notes content p.first k.1.0).1 k.1.1) ∙ sym k.1.2
          ],
        )
        | Some a ↦ λ f. (
          λ e. inl (subst (IsAsked at notes p) e ((asked_law at notes content cover p a).0 f)),
          λ h. elim h [
            | inl k ↦ same_Some a o (sym f ∙ (asked_law at notes content cover p o).1 k)
            | inr k ↦ absurd (k.0 a ((asked_law at notes content cover p a).0 f))
          ],
        )
      ] refl

  -- All offsets from one up to another are given.
  given_says : (from to : ℕ) → IsCover at.given
      → IsTrue (has_offsets at.given from to) ↔ ((x : ℕ) → LiesBetween from (Some to) x → LiesIn at.given x)
  given_says from to cover =
      let says = has_offsets-says at.given from to cover in (
        λ h x b. says.0 h x b.0 (below x b.1),
        λ h. says.1 (λ x l m. h x (l, inr (to, refl, m))),
      )
    where
      below : (x : ℕ) → ((Some to ≡ None) ⊎ ((e : ℕ) × (Some to ≡ Some e) × (x < e))) → x < to
      below x (inl e) = absurd cc
      below x (inr k) = subst (λ e. x < e) (sym (same_Some to k.0 k.1)) k.2

  -- What is looked for begins no higher than the section.
  begins_low : (start : ℕ) → IsStartOf notes p.first start → start ≤ p.first
  begins_low start (inl s) =
      let begins = s.1.begins in
      let ends = s.1.ends in
      let some = covers_first s.0 in omega (arith, begins, ends, some)
  begins_low start (inr s) = let same = s.0 in omega (arith, same)

  looked_low : (a : Order) → IsLookedFor at notes p a → a.start ≤ p.first
  looked_low a (inl k) = begins_low a.start k.start
  looked_low a (inr k) =
      let same : a.start ≡ k.1.0 = ap (λ (o : Order). o.start) k.1.2 in
      let low = begins_low k.1.0 k.1.1 in omega (arith, same, low)

  -- The first of the parts is the one that begins lowest.
  lowest : IsCover at.hand → (a : Order) (r : OffsetRange) (later : List OffsetRange) → IsLookedFor at notes p a
      → parts_of at p a ≡ r ∷ later → (start : ℕ) (end : Option ℕ) → IsPart at p a start end → r.start ≤ start
  lowest hand a r later is_asked first start end k =
      let q : OffsetRange = record { start = start; end = end } in
      let rise : Rise a.start (r ∷ later) =
      subst (Rise a.start) first (parts_rise at hand p a (looked_low a is_asked)) in
      let held = subst (λ rs. In q rs) first ((parts_say at p a hand q).1 k) in
      elim held [
        | inl e ↦ (let same = ap (λ (x : OffsetRange). x.start) e in omega (arith, same))
        | inr j ↦ (let above = rise_above (r.start + 1) later q rise.1 j in omega (arith, above))
      ]

  found_first : IsCover at.hand → (a : Order) (r : OffsetRange) → IsLookedFor at notes p a → IsPart at p a r.start r.end
      → ((start : ℕ) (end : Option ℕ) → IsPart at p a start end → r.start ≤ start)
      → slice_get (parts_of at p a) 0 ≡ Some r
  found_first hand a r is_asked is_part first =
      by (parts_of at p a) ((parts_say at p a hand r).1 is_part) (parts_rise at hand p a (looked_low a is_asked))
      (λ g k. let h = (parts_say at p a hand g).0 k in first g.start g.end h)
    where
      by : (ranges : List OffsetRange) → In r ranges → Rise a.start ranges
          → ((g : OffsetRange) → In g ranges → r.start ≤ g.start) → slice_get ranges 0 ≡ Some r
      by [] k rise low = absurd k
      by (g ∷ ranges) (inl e) rise low = ap (λ (y : OffsetRange). Some y) (sym e)
      by (g ∷ ranges) (inr k) rise low =
          let above = rise_above (g.start + 1) ranges r rise.1 k in
          let below = low g (inl refl) in absurd (omega (arith, above, below))

  front_says : IsCover at.hand → (a : Order) (r : OffsetRange) (later : List OffsetRange) → IsCover at.given
      → IsLookedFor at notes p a → parts_of at p a ≡ r ∷ later → IsFront at notes p (part_order at a (front_range r))
  front_says hand a r later cover is_asked first = record {
    asked = a;
    is_asked = is_asked;
    part = r;
    is_part = (parts_say at p a hand r).0 (subst (λ rs. In r rs) (sym first) (inl refl));
    first = lowest hand a r later is_asked first;
    reason = refl;
    source = refl;
    start = refl;
    end = refl;
    inside = not_equal r.start a.start;
    again = given_says r.start (end_of_front r) cover;
  }

  front_is : IsCover at.given → (o : Order) (f : IsFront at notes p o) → part_order at f.asked (front_range f.part) ≡ o
  front_is cover o f =
      let a = f.asked in
      let r = f.part in
      let end = end_of_front r in
      let compared = not_equal r.start a.start in
      let given = given_says r.start end cover in
      let inside : not (r.start == a.start) ≡ o.inside =
      same_bool (not (r.start == a.start)) o.inside (λ t. f.inside.1 (λ e. compared.0 t (sym f.start ∙ e)))
      (λ t. compared.1 (λ e. f.inside.0 t (f.start ∙ e))) in
      let again : has_offsets at.given r.start end ≡ o.again =
      same_bool (has_offsets at.given r.start end) o.again
      (λ t. f.again.1 (λ x l. given.0 t x (moved f.start f.end x l)))
      (λ t. given.1 (λ x l. f.again.0 t x (moved (sym f.start) (sym f.end) x l))) in
      λ i. record {
        reason = sym f.reason i;
        start = sym f.start i;
        end = sym f.end i;
        source = sym f.source i;
        inside = inside i;
        again = again i;
      }
    where
      moved : {from to : ℕ} {end reach : Option ℕ} → from ≡ to → end ≡ reach → (x : ℕ) → LiesBetween from end x
          → LiesBetween to reach x
      moved same alike x l = (
        subst (λ s. s ≤ x) same l.0,
        subst (λ e. (e ≡ None) ⊎ ((y : ℕ) × (e ≡ Some y) × (x < y))) alike l.1,
      )

  pub front_law : (o : Order) → IsContent notes → IsCover at.given → IsCover at.hand
      → (front_of at notes p ≡ Some o) ↔ IsFront at notes p o
  unfolding front_of
  front_law o content cover hand =
      let a = looked_for at notes p in (
        λ e.
            let m = some_from (λ (r : OffsetRange). part_order at a (front_range r))
            (slice_get (parts_of at p a) 0) o e in
            let l = first_is (parts_of at p a) m.0 m.1 in
            subst (IsFront at notes p) m.2 (front_says hand a m.0 l.0 cover ((looked content cover a).0 refl) l.1),
        λ f.
            let same : a ≡ f.asked = (looked content cover f.asked).1 f.is_asked in
            let first = found_first hand f.asked f.part f.is_asked f.is_part f.first in
            ap (front_by at p) same ∙ ap (option_map (λ (r : OffsetRange). part_order at f.asked (front_range r))) first
            ∙ ap (λ (y : Order). Some y) (front_is cover o f),
      )
