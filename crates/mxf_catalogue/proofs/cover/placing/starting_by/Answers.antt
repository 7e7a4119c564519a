use Rattle.mxf_klv.proofs.Common.{rules, nat_le, arith, ap, length, sym, ◌-◌, leb-true, leb-false}
use Rattle.mxf_klv.proofs.Common.{IsPartitionPoint-from_clause, IsPartitionedBy-leb, get_or_from_slice_get}
use Rattle.mxf_klv.proofs.Common.{slice_get_within}
use Rattle.mxf_catalogue.specs.declared.run.Run.{Run}
use Rattle.mxf_catalogue.proofs.CoverLaws.{starts_rise}
use Rattle.mxf_catalogue.proofs.cover.placing.starting_by.Goals as goal

pub returns-in-Some-clause-below : goal.returns-in-Some-clause-below
returns-in-Some-clause-below c j d l h =
    let xs = c.args.runs.now in
    let k = length xs - 1 in
    let e = sym c.in-Some.ensures.value in
    let at = get_or_from_slice_get xs k c.in-Some.last.now d e in
    let up = starts_rise 0 xs c.requires.maximal j k d (omega arith) (slice_get_within xs k c.in-Some.last.now e) in
    omega (arith, up, ap (λ (r : Run). r.start) at, c.if-last-offset.true)

pub returns-in_default : goal.returns-in_default
returns-in_default c =
    let parted = IsPartitionedBy-leb (λ r. r.start) _ c.args.offset (starts_rise 0 _ c.requires.maximal) in
    let point = IsPartitionPoint-from_clause
    (λ r. nat_le r.start c.args.offset) _ _ c.partition_point.ensures.partitioned parted (λ a r q k. search rules) in
    record {
      bound = c.partition_point.ensures.bound;
      below = λ k d l h. leb-true _ _ (point.0 k d l h);
      above = λ k d l h. leb-false _ _ (point.1 k d l h);
    }
