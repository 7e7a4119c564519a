use Rattle.mxf_views.proofs.Common.{◌≡◌, ◌∙◌, ap, rules, YieldsList-from_slice, items_from_extend}
use Rattle.mxf_views.proofs.Common.{YieldsList-from_filter_map, partitions_of}
use Rattle.std.specs.List.{filter_map}
use Rattle.mxf_places.specs.Claims.{footer_claim}
use Rattle.mxf_places.proofs.InNumbers.{footers}
use Rattle.mxf_places.proofs.claim.add_footers.Goals as goal

pub returns : goal.returns
returns c =
    let lent = c.partitions_in_numbers.result.now in
    let same : filter_map footer_claim lent ≡ filter_map footer_claim (partitions_of c.args.views.now) =
    ap (filter_map footer_claim) c.partitions_in_numbers.ensures.partitions
    ∙ footers (partitions_of c.args.views.now) in
    let h = items_from_extend c.extend.result c.extend.ensures.ran (YieldsList-from_filter_map _ footer_claim
    (YieldsList-from_slice lent cc) c.filter_map-found.ensures.closure (λ x r q k. search rules)) in
    search (same, rules)
