use Rattle.mxf_views.proofs.Common.{◌≡◌, ◌∙◌, ap, map, rules, YieldsList-from_map, YieldsList-from_slice}
use Rattle.mxf_views.proofs.Common.{items_from_collect, map-map, PartitionParts, in_numbers, partitions_of}
use Rattle.mxf_units.proofs.bounds.partition_offsets.Goals as goal

pub returns : goal.returns
returns c =
    let offset = λ (p : PartitionParts). p.offset in
    let lent = c.partitions_in_numbers.result.now in
    let ps = partitions_of c.args.views.now in
    let same : map offset lent ≡ map offset ps =
    ap (map offset) c.partitions_in_numbers.ensures.partitions ∙ map-map offset in_numbers ps in
    let h = items_from_collect _ c.collect.ensures.ran (YieldsList-from_map _ offset (YieldsList-from_slice lent cc)
    c.map-offsets.ensures.closure (λ x r q k. search rules)) in search (same, rules)
