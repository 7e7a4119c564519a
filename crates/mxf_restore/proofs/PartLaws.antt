-- What is ordered of a section, by the function and by the relation.
use Rattle.mxf_views.proofs.Common.{◌≡◌, ◌↔◌, ◌⊎◌, ◌∙◌, ◌==◌, ◌<◌, ◌+◌, ℕ, Bool, true, false, not, nat_lt, IsTrue, List}
use Rattle.mxf_views.proofs.Common.{[], ◌∷◌, Option, None, Some, filter, if◌then◌else◌, refl, sym, ap, subst, inl, inr}
use Rattle.mxf_views.proofs.Common.{arith, eqb-true, eq-eqb, lt-ltb, ltb-true, or_cases, or_left, or_right, same_Some}
use Rattle.mxf_views.proofs.Common.{option_map_or, NoteParts, In, In-filter, In-map, not-true-false, not_equal}
use Rattle.mxf_views.proofs.Common.{not_true, same_bool, IsContent, IsCover}
use Rattle.mxf_places.specs.AtHand.{AtHandParts, has_offset, lacking}
use Rattle.mxf_places.specs.declared.at_hand.OffsetRange.{OffsetRange}
use Rattle.mxf_places.proofs.AtHandLaws.{Rise, has_offset-says, has_offsets-says, lacking_rise, members, rise_above}
use Rattle.mxf_restore.specs.Orders.{IsFirstLacking, IsLackingIn, IsOrder, IsPart, IsWholeNeeded, WasHandedIn}
use Rattle.mxf_restore.specs.Plan.{asked_of, begun_at, is_again, is_whole_needed, orders_by, orders_of, part_order}
use Rattle.mxf_restore.specs.Plan.{parts_among, parts_of, plan_of}
use Rattle.mxf_restore.specs.Sections.{sections_of}
use Rattle.mxf_restore.specs.declared.section.Section.{Section}
use Rattle.mxf_restore.specs.declared.plan.Order.{Order}
use Rattle.mxf_restore.proofs.AskedLaws.{asked_law}
use Rattle.mxf_restore.proofs.PlanMembers.{order_members}

before_says : (end : Option ℕ) (x : ℕ)
    → (option_map_or (λ e. nat_lt x e) end true ≡ true) ↔ ((bound : ℕ) → end ≡ Some bound → x < bound)
before_says None x = (λ t bound e. absurd cc, λ f. refl)
before_says (Some d) x = (
  λ t bound e. let same = same_Some d bound e in let l = ltb-true x d t in omega (arith, same, l),
  λ f. lt-ltb x d (f d refl),
)

module _ (at : AtHandParts) where
  whole_says : (p : Section) (start : ℕ) → IsTrue (is_whole_needed at p start) ↔ IsWholeNeeded at p start
  whole_says p start =
      let is = has_offset-says at.hand p.first in (
        λ t. elim (or_cases (start == p.first) (not (has_offset at.hand p.first)) t) [
          | inl u ↦ inl (eqb-true start p.first u)
          | inr u ↦ inr (λ k. not-true-false (has_offset at.hand p.first) u (is.1 k))
        ],
        λ w. elim w [
          | inl e ↦ or_left (start == p.first) (not (has_offset at.hand p.first)) (eq-eqb start p.first e)
          | inr f ↦ or_right (start == p.first) (not (has_offset at.hand p.first))
              (not_true (has_offset at.hand p.first) (λ u. f (is.0 u)))
        ],
      )

  again_says : IsCover at.given → IsCover at.hand → (start : ℕ) (end : Option ℕ)
      → IsTrue (is_again at (record { start = start; end = end })) ↔ WasHandedIn at start end
  again_says given hand start None = has_offsets-says at.hand start (start + 25) hand
  again_says given hand start (Some e) = has_offsets-says at.given start e given

  -- ---- the parts of what is asked for of a section

  module _ (p : Section) (o : Order) where
    abbrev before_next : OffsetRange → Bool
    before_next r = option_map_or (λ e. nat_lt r.start e) p.end true

    module _ (g : OffsetRange) (ranges : List OffsetRange) (rise : Rise p.first (g ∷ ranges))
        (says : (q : OffsetRange) → In q (g ∷ ranges) ↔ IsLackingIn at p o q) where
      first_one : IsFirstLacking at p o g
      first_one = (
        (says g).0 (inl refl),
        λ q l. elim ((says q).1 l) [
          | inl e ↦ (let same = ap (λ (y : OffsetRange). y.start) e in omega (arith, same))
          | inr k ↦ (let above = rise_above (g.start + 1) ranges q rise.1 k in omega (arith, above))
        ],
      )

      not_first : (q : OffsetRange) → In q ranges → IsFirstLacking at p o q → ⊥
      not_first q k f =
          let above = rise_above (g.start + 1) ranges q rise.1 k in
          let low = f.1 g ((says g).0 (inl refl)) in omega (arith, above, low)

      abbrev first_begun : OffsetRange
      first_begun = record { start = o.start; end = g.end }

      -- The range is a part, wherever the section ends: it goes up to the end of one that lacks, and begins where it
      -- has to.
      abbrev IsLackingPart : OffsetRange → Type 0
      IsLackingPart r = (q : OffsetRange) × IsLackingIn at p o q × (r.end ≡ q.end)
          × ((IsFirstLacking at p o q × IsWholeNeeded at p o.start × (r.start ≡ o.start))
          ⊎ (((IsFirstLacking at p o q × IsWholeNeeded at p o.start) → ⊥) × (r.start ≡ q.start)))

      -- Such parts are kept that begin before the section ends.
      kept_say : (parts : List OffsetRange) (r : OffsetRange) → In r parts ↔ IsLackingPart r
          → In r (filter before_next parts) ↔ IsPart at p o r.start r.end
      kept_say parts r are =
          let f = In-filter before_next parts r in
          let before = before_says p.end r.start in (
            λ k.
                let s = f.0 k in
                let q = are.0 s.0 in
                inr (q.0, q.1, q.2, q.3, before.0 s.1),
            λ h. elim h [
              | inl n ↦ absurd (n.0 g ((says g).0 (inl refl)))
              | inr n ↦ f.1 (are.1 (n.0, n.1, n.2, n.3), before.1 n.4)
            ],
          )

      begun_say : IsWholeNeeded at p o.start → (r : OffsetRange) → In r (first_begun ∷ ranges) ↔ IsLackingPart r
      begun_say whole r = (
        λ k. elim k [
          | inl e ↦ (
            g,
            (says g).0 (inl refl),
            ap (λ (y : OffsetRange). y.end) e,
            inl (first_one, whole, ap (λ (y : OffsetRange). y.start) e),
          )
          | inr j ↦ (r, (says r).0 (inr j), refl, inr (λ h. not_first r j h.0, refl))
        ],
        λ n. elim n.3 [
          | inl w ↦ elim ((says n.0).1 n.1) [
            | inl e ↦ inl (λ i. record { start = w.2 i; end = (n.2 ∙ ap (λ (y : OffsetRange). y.end) e) i })
            | inr k ↦ absurd (not_first n.0 k w.0)
          ]
          | inr w ↦ elim ((says n.0).1 n.1) [
            | inl e ↦ absurd (w.0 (subst (IsFirstLacking at p o) (sym e) first_one, whole))
            | inr k ↦ inr
                (subst (λ (y : OffsetRange). In y ranges) (λ i. record { start = sym w.1 i; end = sym n.2 i }) k)
          ]
        ],
      )

      as_they_lack_say : (IsWholeNeeded at p o.start → ⊥) → (r : OffsetRange) → In r (g ∷ ranges) ↔ IsLackingPart r
      as_they_lack_say part r = (
        λ k. (r, (says r).0 k, refl, inr (λ h. part h.1, refl)),
        λ n. elim n.3 [
          | inl w ↦ absurd (part w.1)
          | inr w ↦ subst (λ (y : OffsetRange). In y (g ∷ ranges))
              (λ i. record { start = sym w.1 i; end = sym n.2 i }) ((says n.0).1 n.1)
        ],
      )

      some_say : (r : OffsetRange) → In r (parts_among at p o (g ∷ ranges)) ↔ IsPart at p o r.start r.end
      some_say r =
          let whole = whole_says p o.start in
          elim (is_whole_needed at p o.start) as (λ b. is_whole_needed at p o.start ≡ b
          → In r (filter before_next (if b then begun_at o.start (g ∷ ranges) else g ∷ ranges))
          ↔ IsPart at p o r.start r.end) [
            | true ↦ λ t. kept_say (first_begun ∷ ranges) r (begun_say (whole.0 t) r)
            | false ↦ λ f. kept_say (g ∷ ranges) r (as_they_lack_say (λ w. let u = whole.1 w in cc (f, u)) r)
          ] refl

    among_say : (ranges : List OffsetRange) → Rise p.first ranges
        → ((q : OffsetRange) → In q ranges ↔ IsLackingIn at p o q) → (r : OffsetRange)
        → In r (parts_among at p o ranges) ↔ IsPart at p o r.start r.end
    among_say [] rise says r = (
      λ k. elim k [
        | inl e ↦ inl (λ q l. (says q).1 l, ap (λ (y : OffsetRange). y.start) e, ap (λ (y : OffsetRange). y.end) e)
        | inr n ↦ absurd n
      ],
      λ h. elim h [ inl n ↦ inl (λ i. record { start = n.1 i; end = n.2 i }) | inr n ↦ absurd ((says n.0).1 n.1) ],
    )
    among_say (g ∷ ranges) rise says r = some_say g ranges rise says r

    pub parts_say : IsCover at.hand → (r : OffsetRange) → In r (parts_of at p o) ↔ IsPart at p o r.start r.end
    unfolding parts_of
    parts_say cover r = among_say (lacking at.hand p.first o.end) (lacking_rise 0 at.hand cover.maximal p.first o.end)
        (λ q. members at.hand p.first o.end q cover) r

  -- ---- orders

  module _ (notes : List NoteParts) (content : IsContent notes) (given : IsCover at.given) (hand : IsCover at.hand)
    where
      part_says : (p : Section) (a : Order) (r : OffsetRange) → asked_of at notes p ≡ Some a → In r (parts_of at p a)
          → IsOrder at notes p (part_order at a r)
      part_says p a r e k = record {
        asked = a;
        is_asked = (asked_law at notes content given p a).0 e;
        part = (parts_say p a hand r).0 k;
        reason = refl;
        source = refl;
        inside = not_equal r.start a.start;
        again = again_says given hand r.start r.end;
      }

      part_is : (p : Section) (o : Order) (f : IsOrder at notes p o)
          → part_order at f.asked (record { start = o.start; end = o.end }) ≡ o
      part_is p o f =
          let a = f.asked in
          let compared = not_equal o.start a.start in
          let handed = again_says given hand o.start o.end in
          let inside : not (o.start == a.start) ≡ o.inside =
          same_bool (not (o.start == a.start)) o.inside (λ t. f.inside.1 (compared.0 t))
          (λ t. compared.1 (f.inside.0 t))
          in
          let again : is_again at (record { start = o.start; end = o.end }) ≡ o.again =
          same_bool (is_again at (record { start = o.start; end = o.end })) o.again (λ t. f.again.1 (handed.0 t))
          (λ t. handed.1 (f.again.0 t)) in
          λ i. record {
            reason = sym f.reason i;
            start = o.start;
            end = o.end;
            source = sym f.source i;
            inside = inside i;
            again = again i;
          }

      pub orders_say : (p : Section) (o : Order) → In o (orders_of at notes p) ↔ IsOrder at notes p o
      unfolding orders_of
      orders_say p o = (
        λ k. elim (asked_of at notes p) as (λ a. asked_of at notes p ≡ a → In o (orders_by at p a)
            → IsOrder at notes p o) [
              | None ↦ λ e h. absurd h
              | Some a ↦ λ e h.
                  let s = (In-map (part_order at a) (parts_of at p a) o).0 h in
                  subst (IsOrder at notes p) (sym s.2) (part_says p a s.0 e s.1)
            ] refl k,
        λ f.
            let a = f.asked in
            let r : OffsetRange = record { start = o.start; end = o.end } in
            let e = (asked_law at notes content given p a).1 f.is_asked in
            let k = (parts_say p a hand r).1 f.part in
            subst (λ w. In o (orders_by at p w)) (sym e)
            ((In-map (part_order at a) (parts_of at p a) o).1 (r, k, sym (part_is p o f))),
      )

      pub plan_orders_say : (o : Order)
          → In o (plan_of at notes).orders ↔ ((p : Section) × In p (sections_of notes) × IsOrder at notes p o)
      plan_orders_say o =
          let m = order_members at notes o in (
            λ k. let s = m.0 k in (s.0, s.1, (orders_say s.0 o).0 s.2),
            λ s. m.1 (s.0, s.1, (orders_say s.0 o).1 s.2),
          )
