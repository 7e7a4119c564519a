use Rattle.mxf_klv.proofs.Common.{rules, nat_lt, List, ℕ}
use Rattle.std.proofs.lemmas.List.Sorted.{IsPartitionPoint-from_clause}
use Rattle.mxf_klv.proofs.Sides.{side_by, sides_parted}
use Rattle.mxf_klv.proofs.Common.{slice_cmp, nat_cmp, ap, ◌∙◌, ◌-◌}
use Rattle.mxf_doubts.specs.Strange.{bare_key}
use Rattle.mxf_doubts.proofs.KeyLaws.{counted_between, keys_total}
use Rattle.mxf_doubts.proofs.strange.count_of.Goals as goal

pub returns : goal.returns
returns c =
    let bare = bare_key c.args.key.now in
    let xs = c.args.keys.now in
    let side = side_by (slice_cmp nat_cmp) (λ (k : List ℕ). k) bare in
    let parted = sides_parted keys_total (λ (k : List ℕ). k) bare xs c.requires in
    let up_to = IsPartitionPoint-from_clause (λ x. nat_lt (side x) 2) _ _ c.partition_point-to.ensures.partitioned
    (parted 2) (λ a r q k. search rules) in
    let below = IsPartitionPoint-from_clause (λ x. nat_lt (side x) 1) _ _
    c.partition_point-from.ensures.partitioned (parted 1) (λ a r q k. search rules) in
    ap (λ m. c.partition_point-to.result - m) c.min.ensures
    ∙ counted_between c.args.key.now xs _ _ c.partition_point-to.ensures.bound below.0 below.1 up_to.0 up_to.1
