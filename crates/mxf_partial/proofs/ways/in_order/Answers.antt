use Rattle.mxf_views.proofs.Common.{[], inl, inr, subst, sym, In, In-union}
use Rattle.mxf_views.proofs.PlaceLaws.{place_cmp-IsAntisymmetric, place_total}
use Rattle.mxf_partial.proofs.WayLaws.{in_order_is}
use Rattle.mxf_partial.proofs.ways.in_order.Goals as goal

pub returns-clause-members : goal.returns-clause-members
returns-clause-members c = λ p.
    let all = In-union place_total place_cmp-IsAntisymmetric p [] c.in_ok-places.places.items in (
      λ i. elim (all.0 (subst (In p) c.sort_once.ensures.members i)) [
        | inl none ↦ absurd none
        | inr k ↦ subst (In p) c.in_ok-places.ensures.items k
      ],
      λ i. subst (In p) (sym c.sort_once.ensures.members)
          (all.1 (inr (subst (In p) (sym c.in_ok-places.ensures.items) i))),
    )

pub returns-clause-order : goal.returns-clause-order
returns-clause-order c = in_order_is c.sort_once.new.items.items c.sort_once.ensures.rising
