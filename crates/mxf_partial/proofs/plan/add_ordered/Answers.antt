use Rattle.mxf_views.proofs.Common.{rules, YieldsList-from_map, YieldsList-from_slice, items_from_extend}
use Rattle.mxf_partial.specs.Gathered.{run_of_order}
use Rattle.mxf_partial.proofs.plan.add_ordered.Goals as goal

pub returns : goal.returns
returns c =
    let h = items_from_extend c.extend.result c.extend.ensures.ran (YieldsList-from_map _ run_of_order
    (YieldsList-from_slice c.args.orders.now cc) c.map-found.ensures.closure (λ x r q k. search rules)) in search rules
