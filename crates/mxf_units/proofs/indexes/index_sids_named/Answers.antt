use Rattle.mxf_views.proofs.Common.{◌≡◌, ◌∙◌, List, ap, filter_map, rules, YieldsList-from_slice, items_from_collect}
use Rattle.mxf_views.proofs.Common.{YieldsList-from_filter_map, PartitionParts, partitions_of}
use Rattle.mxf_units.specs.Indexes.{index_sid_named}
use Rattle.mxf_units.proofs.SidLaws.{named-mapped}
use Rattle.mxf_units.proofs.indexes.index_sids_named.Goals as goal

pub returns : goal.returns
returns c =
    let lent = c.partitions_in_numbers.result.now in
    let ps = partitions_of c.args.views.now in
    let same : filter_map index_sid_named lent ≡ filter_map index_sid_named ps =
    ap (λ (l : List PartitionParts). filter_map index_sid_named l) c.partitions_in_numbers.ensures.partitions
    ∙ named-mapped ps in
    let h = items_from_collect _ c.collect.ensures.ran (YieldsList-from_filter_map _ index_sid_named
    (YieldsList-from_slice lent cc) c.filter_map-index_sids.ensures.closure (λ x r q k. search rules)) in
    search (same, rules)
