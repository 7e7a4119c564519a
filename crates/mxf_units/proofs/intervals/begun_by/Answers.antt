use Rattle.mxf_views.proofs.Common.{rules, nat_le, leb-false, IsPartitionPoint-from_clause, IsPartitionedBy-leb}
use Rattle.mxf_units.proofs.intervals.begun_by.Goals as goal

pub returns-clause-above : goal.returns-clause-above
returns-clause-above g c =
    let first = g.T.Interval.first in
    let parted = IsPartitionedBy-leb first _ c.args.at c.requires in
    let point = IsPartitionPoint-from_clause (λ x. nat_le (first x) c.args.at) _ _
    c.partition_point.ensures.partitioned parted (λ a r q k. search rules) in
    λ k d l h. leb-false _ _ (point.1 k d l h)
