use Rattle.mxf_views.proofs.Common.{rules, YieldsList-from_map, YieldsList-from_slice, items_from_extend}
use Rattle.mxf_partial.specs.Orders.{unit_order}
use Rattle.mxf_partial.proofs.plan.add_ranges.Goals as goal

pub returns : goal.returns
returns c =
    let h = items_from_extend c.extend.result c.extend.ensures.ran (YieldsList-from_map _
    (unit_order c.args.at_hand.now) (YieldsList-from_slice c.args.ranges.now cc)
    c.map-found.ensures.closure (λ x r q k. search rules)) in search rules
