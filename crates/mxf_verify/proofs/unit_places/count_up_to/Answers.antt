use Rattle.mxf_views.proofs.Common.{nat_le, rules, ℕ, leb-true, leb-false, IsPartitionPoint-from_clause}
use Rattle.mxf_views.proofs.Common.{IsPartitionedBy-leb}
use Rattle.mxf_verify.proofs.unit_places.count_up_to.Goals as goal

pub returns : goal.returns
returns c =
    let parted = IsPartitionedBy-leb (λ (n : ℕ). n) _ c.args.bound c.requires in
    let point = IsPartitionPoint-from_clause
    (λ (n : ℕ). nat_le n c.args.bound) _ _ c.partition_point.ensures.partitioned parted (λ a r q k. search rules) in
    record {
      bound = c.partition_point.ensures.bound;
      below = λ k d l h. leb-true _ _ (point.0 k d l h);
      above = λ k d l h. leb-false _ _ (point.1 k d l h);
    }
