use Rattle.mxf_views.proofs.Common.{rules, YieldsList-from_slice, items_from_collect, YieldsList-from_filter_map}
use Rattle.mxf_doubts.specs.UnitStarts.{segment_there}
use Rattle.mxf_doubts.proofs.starts.index.segments_at.Goals as goal

pub returns : goal.returns
returns c =
    let h = items_from_collect _ c.collect.ensures.ran (YieldsList-from_filter_map _ (segment_there c.args.views.now)
    (YieldsList-from_slice c.args.own.now cc) c.filter_map-segments.ensures.closure (λ x r q k. search rules)) in search rules
