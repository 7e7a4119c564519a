use Rattle.mxf_views.proofs.Common.{◌≡◌, ◌∙◌, ap, map, rules, YieldsList-from_map, YieldsList-from_slice}
use Rattle.mxf_views.proofs.Common.{items_from_collect, partitions_of}
use Rattle.mxf_units.specs.EssenceZones.{part_of}
use Rattle.mxf_units.proofs.InNumbers.{parts_in_numbers}
use Rattle.mxf_units.proofs.essence_zone.part.parts_in.Goals as goal

pub returns : goal.returns
returns c =
    let part = part_of c.args.evidence.now in
    let lent = c.partitions_in_numbers.result.now in
    let ps = partitions_of c.args.views.now in
    let same : map part lent ≡ map part ps =
    ap (map part) c.partitions_in_numbers.ensures.partitions ∙ parts_in_numbers c.args.evidence.now ps in
    let h = items_from_collect _ c.collect.ensures.ran (YieldsList-from_map _ part (YieldsList-from_slice lent cc)
    c.map-parts.ensures.closure (λ x r q k. search rules)) in search (same, rules)
