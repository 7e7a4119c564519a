use Rattle.mxf_views.proofs.Common.{rules, ◌∙◌, IsPartitionPoint-from_clause}
use Rattle.mxf_units.proofs.PartLaws.{found, is_behind, parted, settled}
use Rattle.mxf_units.proofs.essence_zone.part.zone_at.Goals as goal

pub returns : goal.returns
returns c =
    let parts = c.args.parts.now in
    let point = IsPartitionPoint-from_clause (is_behind c.args.body_sid c.args.offset) _ _
    c.partition_point-passed.ensures.partitioned (parted c.args.body_sid c.args.offset parts c.requires)
    (λ a r q k. search rules) in
    c.by_first.ensures ∙ found c.args.body_sid c.args.offset parts _ c.partition_point-passed.result
    (settled c.args.body_sid c.args.offset parts c.partition_point-passed.result c.partition_point-passed.ensures.bound
    c.requires point.0 point.1)
    c.split_at.ensures.back
