use Rattle.mxf_views.proofs.Common.{◌≡◌, ◌∙◌, ap, map, rules, YieldsList-from_map, YieldsList-from_slice}
use Rattle.mxf_views.proofs.Common.{items_from_collect, map-map, segments_of, without_entries}
use Rattle.mxf_doubts.specs.UnitStarts.{own_segment}
use Rattle.mxf_doubts.proofs.starts.index.own_segments.Goals as goal

pub returns : goal.returns
returns c =
    let lent = c.segments_in_numbers.result.now in
    let ss = segments_of c.args.views.now in
    let same : map own_segment lent ≡ map own_segment ss =
    ap (map own_segment) c.segments_in_numbers.ensures.segments ∙ map-map own_segment without_entries ss in
    let h = items_from_collect _ c.collect.ensures.ran (YieldsList-from_map _ own_segment (YieldsList-from_slice lent cc)
    c.map.ensures.closure (λ x r q k. search rules)) in search (same, rules)
