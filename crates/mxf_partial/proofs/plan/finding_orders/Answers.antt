use Rattle.mxf_views.proofs.Common.{◌≡◌, ◌↔◌, ◌⊎◌, ◌∙◌, [], List, subst, sym, true, In, ap}
use Rattle.mxf_restore.specs.declared.named.NamedPlace.{NamedPlace}
use Rattle.mxf_partial.specs.Asks.{IsAskedByIndex, IsAskedByUnit}
use Rattle.mxf_restore.specs.declared.plan.Order.{Order}
use Rattle.mxf_partial.proofs.UnitPlanLaws.{found}
use Rattle.mxf_units.specs.Units.{UnitsParts}
use Rattle.mxf_partial.specs.Wanted.{WantedParts}
use Rattle.mxf_restore.specs.Sections.{sections_of}
use Rattle.mxf_partial.proofs.plan.finding_orders.Goals as goal

pub returns : goal.returns
returns c =
    let w : WantedParts = c.args.wanted.now in
    let known = c.in_ok-section_orders.ensures
    ∙ (λ i. record { notes = c.holdings-2.ensures i; at = c.at_hand.ensures i })
    ∙ ap (λ (u : UnitsParts). u.known) c.units-units.ensures in
    let sections = c.in_ok-sections.ensures ∙ ap sections_of c.holdings.ensures
    ∙ ap (λ (u : UnitsParts). sections_of u.known.notes) c.units-units.ensures in
    found w c.is_described-is_described.result c.is_none-is_index_sought.result c.in_ok-section_orders.section_orders c.deref.result.now
    c.deref-3.result.now c.in_ok-orders.orders.items c.add_fronts.new.orders.items c.deref-4.result.now
    c.is_described-is_described.ensures known (c.deref.ensures.value ∙ sections) (c.deref-3.ensures.value ∙ sections)
    c.in_ok-orders.ensures
    (subst (λ (l : List Order). (c.is_none-is_index_sought.result ≡ true) ↔ (l ≡ [])) c.deref-2.ensures.value
    c.is_none-is_index_sought.ensures) (λ n.
    subst (λ (l : List NamedPlace). In n l ↔ (IsAskedByUnit w n.place n.source
    ⊎ ((c.is_none-is_index_sought.result ≡ true) × IsAskedByIndex w n.place n.source))) (sym c.deref-4.ensures.value)
    (c.in_ok-asked.ensures.members n)) c.in_ok-add_fronts.ensures
