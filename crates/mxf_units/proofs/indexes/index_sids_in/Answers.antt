use Rattle.mxf_views.proofs.Common.{◌≡◌, ◌∙◌, ap, map, rules, YieldsList-from_map, YieldsList-from_slice}
use Rattle.mxf_views.proofs.Common.{items_from_collect, map-map, SegmentAtParts, segments_of, without_entries}
use Rattle.mxf_units.proofs.indexes.index_sids_in.Goals as goal

pub returns : goal.returns
returns c =
    let sid = λ (s : SegmentAtParts). s.segment.numbers.index_sid in
    let lent = c.segments_in_numbers.result.now in
    let ss = segments_of c.args.views.now in
    let same : map sid lent ≡ map sid ss =
    ap (map sid) c.segments_in_numbers.ensures.segments ∙ map-map sid without_entries ss in
    let h = items_from_collect _ c.collect.ensures.ran (YieldsList-from_map _ sid (YieldsList-from_slice lent cc)
    c.map-index_sids.ensures.closure (λ x r q k. search rules)) in search (same, rules)
