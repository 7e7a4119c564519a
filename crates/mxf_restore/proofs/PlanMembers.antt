-- What a plan orders, and what it disputed places.
use Rattle.mxf_views.proofs.Common.{◌≡◌, ◌↔◌, ◌⊎◌, ◌∙◌, ◌<◌, ◌==◌, ℕ, true, false, not, cond, List, [], ◌∷◌, Some}
use Rattle.mxf_views.proofs.Common.{filter, filter_map, find, refl, sym, ap, inl, inr, eqb-true, eq-eqb, false≢true}
use Rattle.mxf_views.proofs.Common.{same_Some, NoteParts, In, IsRising, In-union, IsRising-union, In-filter}
use Rattle.mxf_views.proofs.Common.{In-flat_map, not-true-false, not_true, IsContent, IsGap, LiesIn}
use Rattle.mxf_places.specs.AtHand.{AtHandParts, edge_of, has_offset}
use Rattle.mxf_places.proofs.AtHandLaws.{has_offset-says}
use Rattle.mxf_places.specs.Claims.{claims_of}
use Rattle.mxf_restore.specs.Sections.{sections_of}
use Rattle.mxf_restore.specs.Plan.{LiesInOrder, disputed_place_cmp, disputed_place_of, first_by_place}
use Rattle.mxf_restore.specs.Plan.{found_disputed_places, found_orders, order_cmp, orders_of, plan_of}
use Rattle.mxf_restore.specs.declared.section.Section.{Section}
use Rattle.mxf_restore.specs.declared.plan.DisputedPlace.{DisputedPlace}
use Rattle.mxf_restore.specs.declared.plan.Order.{Order}
use Rattle.mxf_restore.proofs.OrderCover.{ordered_somewhere}
use Rattle.mxf_restore.proofs.PlanLaws.{disputed_place_total, one_disputed_place, one_order, order_total}

-- ---- orders

module _ (at : AtHandParts) (notes : List NoteParts) where
  in_plan : (o : Order) → In o (plan_of at notes).orders ↔ In o (found_orders at notes)
  unfolding plan_of
  in_plan o =
      let u = In-union order_total one_order o [] (found_orders at notes) in
      (λ k. elim (u.0 k) [ inl n ↦ absurd n | inr n ↦ n ], λ k. u.1 (inr k))

  found_members : (o : Order)
      → In o (found_orders at notes) ↔ ((p : Section) × In p (sections_of notes) × In o (orders_of at notes p))
  unfolding found_orders
  found_members o = In-flat_map (orders_of at notes) (sections_of notes) o

  pub order_members : (o : Order)
      → In o (plan_of at notes).orders ↔ ((p : Section) × In p (sections_of notes) × In o (orders_of at notes p))
  order_members o =
      let a = in_plan o in
      let b = found_members o in (λ k. b.0 (a.0 k), λ s. a.1 (b.1 s))

  pub orders_rise : IsRising order_cmp (plan_of at notes).orders
  unfolding plan_of
  orders_rise = IsRising-union order_total one_order [] (found_orders at notes) tt

  pub gap_ordered : (x : ℕ) → IsContent notes → IsGap notes x → x < edge_of at notes
      → LiesIn at.hand x ⊎ ((o : Order) × In o (plan_of at notes).orders × LiesInOrder o x)
  gap_ordered x content g edge = elim (has_offset at.hand x) as (λ b. has_offset at.hand x ≡ b
      → LiesIn at.hand x ⊎ ((o : Order) × In o (plan_of at notes).orders × LiesInOrder o x)) [
        | true ↦ λ e. inl ((has_offset-says at.hand x).0 e)
        | false ↦ λ e.
            let free = λ (k : LiesIn at.hand x). false≢true (sym e ∙ (has_offset-says at.hand x).1 k) in
            let s = ordered_somewhere notes at content x g edge free in inr (s.0, (in_plan s.0).1 s.1, s.2)
      ] refl

-- ---- disputed places

first_members : (d : DisputedPlace) (ds : List DisputedPlace) → In d (first_by_place ds)
    ↔ (find (λ e. e.place == d.place) ds ≡ Some d)
first_members d [] = (λ k. absurd k, λ e. absurd cc)
first_members d (x ∷ ds) =
    let ih = first_members d ds in
    let f = In-filter (λ e. not (e.place == x.place)) (first_by_place ds) d in (
      λ k. elim k [
        | inl e ↦ (
            let same : (x.place == d.place) ≡ true =
            eq-eqb x.place d.place (ap (λ (y : DisputedPlace). y.place) (sym e)) in
            ap (λ b. cond b (Some x) (find (λ e. e.place == d.place) ds)) same
            ∙ ap (λ (y : DisputedPlace). Some y) (sym e))
        | inr j ↦ (
            let s = f.0 j in
            let other : (x.place == d.place) ≡ false = unlike x d s.1 in
            ap (λ b. cond b (Some x) (find (λ e. e.place == d.place) ds)) other ∙ ih.0 s.0)
      ],
      elim (x.place == d.place) as (λ b. (x.place == d.place) ≡ b
          → cond b (Some x) (find (λ e. e.place == d.place) ds) ≡ Some d
          → In d (x ∷ filter (λ e. not (e.place == x.place)) (first_by_place ds))) [
            | true ↦ λ t e. inl (sym (same_Some x d e))
            | false ↦ λ t e. inr (f.1 (
              ih.1 e,
              not_true (d.place == x.place) (λ u.
                  let q = eq-eqb x.place d.place (sym (eqb-true d.place x.place u)) in cc (q, t)),
            ))
          ] refl,
    )
  where
    unlike : (x d : DisputedPlace) → not (d.place == x.place) ≡ true → (x.place == d.place) ≡ false
    unlike x d t = elim (x.place == d.place) as (λ b. (x.place == d.place) ≡ b → (x.place == d.place) ≡ false) [
      | true ↦ λ e. absurd
          (not-true-false (d.place == x.place) t (eq-eqb d.place x.place (sym (eqb-true x.place d.place e))))
      | false ↦ λ e. e
    ] refl

pub disputed_place_members : (at : AtHandParts) (notes : List NoteParts) (d : DisputedPlace)
    → In d (plan_of at notes).disputed_places
    ↔ (find (λ e. e.place == d.place) (filter_map (disputed_place_of notes) (claims_of notes)) ≡ Some d)
unfolding plan_of found_disputed_places
disputed_place_members at notes d =
    let all = filter_map (disputed_place_of notes) (claims_of notes) in
    let u = In-union disputed_place_total one_disputed_place d [] (first_by_place all) in
    let f = first_members d all in (λ k. f.0 (elim (u.0 k) [ inl n ↦ absurd n | inr n ↦ n ]), λ e. u.1 (inr (f.1 e)))

pub disputed_places_rise : (at : AtHandParts) (notes : List NoteParts)
    → IsRising disputed_place_cmp (plan_of at notes).disputed_places
unfolding plan_of
disputed_places_rise at notes =
    IsRising-union disputed_place_total one_disputed_place [] (found_disputed_places notes) tt
