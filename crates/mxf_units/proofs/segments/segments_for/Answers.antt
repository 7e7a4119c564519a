use Rattle.mxf_views.proofs.Common.{◌≡◌, ◌∙◌, ◌==◌, List, ap, filter, filter_map, find, rules, YieldsList-from_slice}
use Rattle.mxf_views.proofs.Common.{items_from_collect, YieldsList-at, YieldsList-from_filter}
use Rattle.mxf_views.proofs.Common.{YieldsList-from_filter_map, SegmentAtParts, segments_of, without_entries, In-filter}
use Rattle.mxf_views.proofs.KeptLaws.{segments_found}
use Rattle.mxf_views.proofs.NumbersLaws.{filter_mapped}
use Rattle.mxf_units.proofs.segments.segments_for.Goals as goal

pub returns : goal.returns
returns c =
    let notes = c.args.views.now in
    let ss = segments_of notes in
    let test = λ (s : SegmentAtParts). s.segment.numbers.index_sid == c.args.index_sid in
    let at = λ (k : SegmentAtParts). find (λ (s : SegmentAtParts). s.offset == k.offset) ss in
    let lent = c.segments_in_numbers.result.now in
    let same : filter_map at (filter test lent) ≡ filter test ss =
    ap (λ (l : List SegmentAtParts). filter_map at (filter test l)) c.segments_in_numbers.ensures.segments
    ∙ ap (filter_map at) (filter_mapped test without_entries ss)
    ∙ segments_found notes (filter test ss) (λ s h. ((In-filter test ss s).0 h).0) in
    let h = items_from_collect _ c.collect.ensures.ran (YieldsList-from_filter_map _ at
    (YieldsList-at c.filter_map-segments.ensures.source (YieldsList-from_filter _ test (YieldsList-from_slice lent cc)
    c.filter.ensures.closure (λ x r q k. search rules)))
    c.filter_map-segments.ensures.closure (λ x r q k. search rules)) in search (same, rules)
