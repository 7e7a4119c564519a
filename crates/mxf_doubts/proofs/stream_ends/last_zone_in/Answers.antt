use Rattle.mxf_views.proofs.Common.{rules, ◌∙◌, IsPartitionPoint-from_clause}
use Rattle.mxf_doubts.proofs.EndLaws.{found_zone, is_later, later_parted}
use Rattle.mxf_doubts.proofs.stream_ends.last_zone_in.Goals as goal

pub returns : goal.returns
returns c =
    let parts = c.args.parts.now in
    let point = IsPartitionPoint-from_clause (is_later c.args.body_sid) _ _ c.partition_point-passed.ensures.partitioned
    (later_parted c.args.body_sid parts c.requires) (λ a r q k. search rules) in
    c.zone_by_first.ensures
    ∙ found_zone c.args.body_sid parts _ c.partition_point-passed.result c.partition_point-passed.ensures.bound c.requires point.0
    point.1 c.split_at.ensures.back
