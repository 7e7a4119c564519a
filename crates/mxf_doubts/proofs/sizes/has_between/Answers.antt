use Rattle.mxf_views.proofs.Common.{◌∙◌, ℕ, ltb-false, nat_lt, rules, sym}
use Rattle.std.proofs.lemmas.List.Sorted.{IsPartitionPoint-from_clause}
use Rattle.mxf_klv.proofs.Sides.{sides_parted}
use Rattle.mxf_doubts.proofs.SizeLaws.{no_size, one_size, size_side, size_total}
use Rattle.mxf_doubts.proofs.sizes.has_between.Goals as goal

pub returns-in-None : goal.returns-in-None
returns-in-None c =
    let xs = c.args.sizes.now in
    let low = c.args.low in
    let parted = IsPartitionPoint-from_clause (λ x. nat_lt (size_side low x) 2) _ _ c.partition_point-first.ensures.partitioned
    (sides_parted size_total (λ (p : ℕ × ℕ × ℕ). p) low xs c.requires 2) (λ a r q k. search rules) in
    no_size low c.args.end xs c.partition_point-first.result c.requires parted.0 parted.1
    (ltb-false _ _ (sym c.in-None.ensures.lookup.0))

pub returns-in-Some : goal.returns-in-Some
returns-in-Some c =
    let xs = c.args.sizes.now in
    let low = c.args.low in
    let parted = IsPartitionPoint-from_clause (λ x. nat_lt (size_side low x) 2) _ _ c.partition_point-first.ensures.partitioned
    (sides_parted size_total (λ (p : ℕ × ℕ × ℕ). p) low xs c.requires 2) (λ a r q k. search rules) in
    let found = c.in-Some.ensures.lookup.3 in
    c.is_below.ensures
    ∙ one_size low c.args.end xs c.partition_point-first.result c.requires parted.0 parted.1 c.in-Some.size.now found.0 found.1
