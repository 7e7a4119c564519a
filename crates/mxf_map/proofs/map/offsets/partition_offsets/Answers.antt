use Rattle.mxf_views.proofs.Common.{◌≡◌, ◌∙◌, List, ap, filter, map, rules, YieldsList-from_map, YieldsList-from_slice}
use Rattle.mxf_views.proofs.Common.{items_from_collect, YieldsList-at, YieldsList-from_filter, map-map, PartitionParts}
use Rattle.mxf_views.proofs.Common.{in_numbers, partitions_of}
use Rattle.mxf_views.proofs.NumbersLaws.{filter_mapped}
use Rattle.mxf_map.specs.Layers.{is_part}
use Rattle.mxf_map.proofs.map.offsets.partition_offsets.Goals as goal

pub returns : goal.returns
returns c =
    let offset = λ (p : PartitionParts). p.offset in
    let test = λ (p : PartitionParts). is_part p.pack.part c.args.part in
    let lent = c.partitions_in_numbers.result.now in
    let ps = partitions_of c.args.views.now in
    let same : map offset (filter test lent) ≡ map offset (filter test ps) =
    ap (λ (l : List PartitionParts). map offset (filter test l)) c.partitions_in_numbers.ensures.partitions
    ∙ ap (map offset) (filter_mapped test in_numbers ps) ∙ map-map offset in_numbers (filter test ps) in
    let h = items_from_collect _ c.collect.ensures.ran (YieldsList-from_map _ offset
    (YieldsList-at c.map-offsets.ensures.source (YieldsList-from_filter _ test (YieldsList-from_slice lent cc)
    c.filter.ensures.closure (λ x r q k. search rules)))
    c.map-offsets.ensures.closure (λ x r q k. search rules)) in search (same, rules)
