use Rattle.mxf_views.proofs.Common.{◌∙◌, ◌++◌, ◌↔◌, ◌⊎◌, [], List, subst, sym, ap, In, union, LiesIn, RiseBy, IsCover}
use Rattle.mxf_units.specs.Units.{IsKnown, UnitsParts}
use Rattle.mxf_restore.specs.NamedPlaces.{IsNamedPlace}
use Rattle.mxf_restore.specs.Plan.{order_cmp}
use Rattle.mxf_restore.specs.declared.plan.Order.{Order}
use Rattle.mxf_views.proofs.KeyedLists.{rise_by}
use Rattle.mxf_places.specs.Held.{end_of_file}
use Rattle.mxf_restore.specs.declared.named.NamedPlace.{NamedPlace}
use Rattle.mxf_partial.specs.Named.{AreNamed}
use Rattle.mxf_partial.specs.Orders.{IsOrdered}
use Rattle.mxf_partial.specs.Wanted.{WantedParts}
use Rattle.mxf_partial.proofs.ChosenLaws.{keys_rise}
use Rattle.mxf_partial.proofs.UnitPlanLaws.{plan_is, there_is, units_in, wanted_is}
use Rattle.mxf_partial.proofs.plan.UnitPlan.of.Goals as goal

named : (c : goal.After-deref-3) → AreNamed c.args.wanted.now.units.known.notes c.in_ok-named.named.items
named c = record {
  rising = c.in_ok-named.ensures.rising;
  members = λ n. subst (λ notes. In n c.in_ok-named.named.items ↔ IsNamedPlace notes n)
      (c.holdings-2.ensures ∙ ap (λ (u : UnitsParts). u.known.notes) c.units-units.ensures)
      (c.in_ok-named.ensures.members n);
}

pub finding_orders-requires-clause-named : goal.finding_orders-requires-clause-named
finding_orders-requires-clause-named c =
    subst (AreNamed c.args.wanted.now.units.known.notes) (sym c.deref-3.ensures.value) (named c)

pub wanted_bytes-requires : goal.wanted_bytes-requires
wanted_bytes-requires c = subst (RiseBy (λ (n : NamedPlace). n.place)) (sym c.deref-5.ensures.value)
    ((rise_by (λ (n : NamedPlace). n.place) c.in_ok-named.named.items).1 (keys_rise c.in_ok-named.named.items
    c.in_ok-named.ensures.rising))

pub returns : goal.returns
returns c =
    let w : WantedParts = c.args.wanted.now in
    let units = c.units-units.ensures in
    let finding = c.in_ok-orders.ensures in
    let there = there_is w c.in_ok-orders.orders.items c.in_ok-there.there finding
    (subst IsCover c.there-2.view_is c.there-2.invariant)
    (λ x. subst (λ (l : List Order). LiesIn c.in_ok-there.there x ↔ (IsKnown w.units.known x ⊎ IsOrdered l x))
    c.deref-4.ensures.value (subst (λ (u : UnitsParts). LiesIn c.in_ok-there.there x
    ↔ (IsKnown u.known x ⊎ IsOrdered c.deref-4.result.now x)) units (c.in_ok-there.ensures x))) in
    let are : AreNamed w.units.known.notes c.deref-5.result.now =
    subst (AreNamed w.units.known.notes) (sym c.deref-5.ensures.value) (record {
      rising = c.in_ok-named.ensures.rising;
      members = λ n. subst (λ notes. In n c.in_ok-named.named.items ↔ IsNamedPlace notes n)
          (c.holdings-2.ensures ∙ ap (λ (u : UnitsParts). u.known.notes) units) (c.in_ok-named.ensures.members n);
    }) in
    let wanted = wanted_is w c.deref-5.result.now c.in_ok-bytes.bytes are
    (subst IsCover c.bytes.view_is c.bytes.invariant) c.in_ok-bytes.ensures in
    let added = c.in_ok-add_unit_orders.ensures
    ∙ (λ i. c.in_ok-orders.orders.items ++ units_in (c.at_hand.ensures i) c.in_ok-there.there c.in_ok-bytes.bytes)
    ∙ ap (λ (u : UnitsParts). c.in_ok-orders.orders.items
    ++ units_in u.known.at c.in_ok-there.there c.in_ok-bytes.bytes) units in
    let is = c.in_order.ensures.members ∙ ap (union order_cmp []) added in
    record {
      wanted = c.in_ok-bytes.bytes;
      wanted_are = wanted;
      there = c.in_ok-there.there;
      there_are = there;
      rising = c.in_order.ensures.rising;
      members = plan_is w c.in_ok-orders.orders.items c.in_order.result.items c.in_ok-there.there c.in_ok-bytes.bytes
          finding is;
      end = c.end.ensures ∙ ap end_of_file c.holdings-3.ensures ∙ ap (λ (u : UnitsParts). end_of_file u.known.notes) units;
    }
