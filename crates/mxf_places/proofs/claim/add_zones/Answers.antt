use Rattle.mxf_views.proofs.Common.{◌≡◌, ◌∙◌, List, ap, map, rules, YieldsList-from_slice, items_from_extend}
use Rattle.mxf_views.proofs.Common.{YieldsList-from_filter_map, NoteParts, in_numbers, partitions_of}
use Rattle.std.specs.List.{filter_map}
use Rattle.mxf_places.specs.Claims.{zone_claim}
use Rattle.mxf_places.proofs.InNumbers.{zones}
use Rattle.mxf_places.proofs.claim.add_zones.Goals as goal

pub returns : goal.returns
returns c =
    let notes = c.args.holdings.now in
    let lent = c.partitions_in_numbers.result.now in
    let claim = zone_claim c.args.zone notes in
    let same : filter_map claim lent ≡ filter_map claim (partitions_of notes) =
    ap (filter_map claim) (c.partitions_in_numbers.ensures.partitions
    ∙ ap (λ (notes : List NoteParts). map in_numbers (partitions_of notes)) c.views.ensures)
    ∙ zones c.args.zone notes (partitions_of notes) in
    let h = items_from_extend c.extend.result c.extend.ensures.ran (YieldsList-from_filter_map _ claim
    (YieldsList-from_slice lent cc) c.filter_map-found.ensures.closure (λ x r q k. search rules)) in
    search (same, rules)
