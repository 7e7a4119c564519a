use Rattle.mxf_views.proofs.Common.{rules, YieldsList-from_map, YieldsList-from_slice, items_from_extend}
use Rattle.mxf_restore.specs.Plan.{part_order}
use Rattle.mxf_restore.proofs.order.add_part_orders.Goals as goal

pub returns : goal.returns
returns c =
    let h = items_from_extend c.extend.result c.extend.ensures.ran (YieldsList-from_map _
    (part_order c.args.at_hand.now c.args.asked) (YieldsList-from_slice c.args.parts.now cc)
    c.map-found.ensures.closure (λ x r q k. search rules)) in search rules
