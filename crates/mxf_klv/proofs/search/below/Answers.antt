use Rattle.mxf_klv.proofs.Common.{rules, nat_lt, arith, ltb-true, ltb-false, IsPartitionPoint-from_clause}
use Rattle.mxf_klv.proofs.Common.{IsPartitionedBy-ltb}
use Rattle.mxf_klv.proofs.search.below.Goals as goal

pub returns-in-Some-clause-below : goal.returns-in-Some-clause-below
returns-in-Some-clause-below g c j d l h = grind arith

pub returns-in_default : goal.returns-in_default
returns-in_default g c =
    let parted = IsPartitionedBy-ltb g.T.Keyed.key _ c.args.bound c.requires in
    let point = IsPartitionPoint-from_clause
    (λ x. nat_lt (g.T.Keyed.key x) c.args.bound) _ _ c.partition_point.ensures.partitioned parted
    (λ a r q k. search rules) in
    record {
      bound = c.partition_point.ensures.bound;
      below = λ k d l h. ltb-true _ _ (point.0 k d l h);
      above = λ k d l h. ltb-false _ _ (point.1 k d l h);
    }
