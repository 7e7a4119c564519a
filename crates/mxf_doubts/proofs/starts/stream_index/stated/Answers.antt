use Rattle.mxf_views.proofs.Common.{◌≡◌, ◌∙◌, ap, map, rules, YieldsList-from_map, YieldsList-from_slice}
use Rattle.mxf_views.proofs.Common.{items_from_collect, map-map, segments_of, without_entries}
use Rattle.mxf_doubts.specs.UnitStarts.{stream_index_in}
use Rattle.mxf_doubts.proofs.starts.stream_index.stated.Goals as goal

pub returns : goal.returns
returns c =
    let lent = c.segments_in_numbers.result.now in
    let ss = segments_of c.args.views.now in
    let same : map stream_index_in lent ≡ map stream_index_in ss =
    ap (map stream_index_in) c.segments_in_numbers.ensures.segments ∙ map-map stream_index_in without_entries ss in
    let h = items_from_collect _ c.collect.ensures.ran (YieldsList-from_map _ stream_index_in (YieldsList-from_slice lent cc)
    c.map-streams.ensures.closure (λ x r q k. search rules)) in search (same, rules)
