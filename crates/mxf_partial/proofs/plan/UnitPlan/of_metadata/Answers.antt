use Rattle.mxf_views.proofs.Common.{◌∙◌, [], ap, filter, flat_map, false, union}
use Rattle.mxf_restore.specs.Plan.{order_cmp}
use Rattle.mxf_partial.specs.Helping.{helping_of}
use Rattle.mxf_partial.specs.MetadataPlans.{is_of_metadata}
use Rattle.mxf_partial.proofs.plan.UnitPlan.of_metadata.Goals as goal

pub returns : goal.returns
returns c =
    let known = c.in_ok-section_orders.ensures in
    let sections = c.deref-3.ensures.value ∙ c.in_ok-sections.ensures in
    let helping = c.in_ok-orders.ensures
    ∙ (λ i. flat_map (helping_of false (known i).at (known i).notes) (sections i)) in
    let kept = c.retain_metadata.ensures ∙ ap (filter is_of_metadata) helping in
    let orders = c.in_order.ensures.members ∙ ap (union order_cmp []) kept in
    λ i. record { orders = orders i; end = c.end.ensures i }
