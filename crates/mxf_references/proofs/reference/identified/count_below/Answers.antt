use Rattle.mxf_views.proofs.Common.{rules}
use Rattle.mxf_references.specs.Identified.{is_below}
use Rattle.std.proofs.lemmas.List.Sorted.{IsPartitionPoint-from_clause}
use Rattle.mxf_references.proofs.IdentifiedLaws.{less_is_below, parted}
use Rattle.mxf_references.proofs.reference.identified.count_below.Goals as goal

pub returns : goal.returns
returns c =
    let uid = c.args.uid.now in
    let point = IsPartitionPoint-from_clause (is_below uid) _ _ c.partition_point.ensures.partitioned
    (parted uid _ c.requires) (λ a r q k. let e = less_is_below uid a.0.now in search (rules, e)) in
    record { bound = c.partition_point.ensures.bound; below = point.0; above = point.1 }
