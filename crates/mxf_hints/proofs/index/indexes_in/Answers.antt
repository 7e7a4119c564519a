use Rattle.mxf_views.proofs.Common.{rules, YieldsList-from_map, YieldsList-from_slice, items_from_collect}
use Rattle.mxf_clocks.specs.Runs.{RunParts}
use Rattle.mxf_hints.proofs.index.indexes_in.Goals as goal

pub returns : goal.returns
returns c =
    let sid = λ (r : RunParts). r.index_sid in
    let h = items_from_collect _ c.collect.ensures.ran (YieldsList-from_map _ sid
    (YieldsList-from_slice c.args.clocks.now cc) c.map-indexes.ensures.closure (λ x r q k. search rules)) in
    search rules
