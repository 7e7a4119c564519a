use Rattle.mxf_views.proofs.Common.{rules, nat_le, leb-true, leb-false, IsPartitionPoint-from_clause}
use Rattle.mxf_views.proofs.Common.{IsPartitionedBy-leb}
use Rattle.mxf_catalogue.specs.declared.run.Run.{Run}
use Rattle.mxf_verify.proofs.ranges.begun_by.Goals as goal

pub returns : goal.returns
returns c =
    let parted = IsPartitionedBy-leb (λ (r : Run). r.start) _ c.args.offset c.requires in
    let point = IsPartitionPoint-from_clause
    (λ (r : Run). nat_le r.start c.args.offset) _ _ c.partition_point.ensures.partitioned parted
    (λ a r q k. search rules) in
    record {
      bound = c.partition_point.ensures.bound;
      below = λ k d l h. leb-true _ _ (point.0 k d l h);
      above = λ k d l h. leb-false _ _ (point.1 k d l h);
    }
