use Rattle.mxf_views.proofs.Common.{rules, YieldsList-from_map, YieldsList-from_slice, items_from_extend}
use Rattle.mxf_hints.specs.Contents.{numbered}
use Rattle.mxf_hints.proofs.contents.push_all.Goals as goal

pub returns : goal.returns
returns c =
    let h = items_from_extend c.extend.result c.extend.ensures.ran (YieldsList-from_map _ (numbered c.args.number)
    (YieldsList-from_slice c.args.reports.now cc) c.map.ensures.closure (λ x r q k. search rules)) in
    search rules
