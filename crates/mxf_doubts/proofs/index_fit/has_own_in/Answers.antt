use Rattle.mxf_views.proofs.Common.{◌∙◌, ℕ, ltb-false, nat_lt, rules, sym}
use Rattle.std.proofs.lemmas.List.Sorted.{IsPartitionPoint-from_clause}
use Rattle.mxf_klv.proofs.Sides.{sides_parted}
use Rattle.mxf_doubts.proofs.FitLaws.{no_own_hit, own_hit, pair_side, pair_total}
use Rattle.mxf_doubts.proofs.index_fit.has_own_in.Goals as goal

pub returns-in-None : goal.returns-in-None
returns-in-None c =
    let xs = c.args.pairs.now in
    let wanted : ℕ × ℕ = (c.args.index_sid, c.args.start) in
    let parted = IsPartitionPoint-from_clause (λ x. nat_lt (pair_side wanted x) 1) _ _ c.partition_point-first.ensures.partitioned
    (sides_parted pair_total (λ (p : ℕ × ℕ). p) wanted xs c.requires 1) (λ a r q k. search rules) in
    no_own_hit c.args.index_sid c.args.start c.args.end xs c.partition_point-first.result c.requires parted.0 parted.1
    (ltb-false _ _ (sym c.in-None.ensures.lookup.0))

pub returns-in-Some : goal.returns-in-Some
returns-in-Some c =
    let xs = c.args.pairs.now in
    let wanted : ℕ × ℕ = (c.args.index_sid, c.args.start) in
    let parted = IsPartitionPoint-from_clause (λ x. nat_lt (pair_side wanted x) 1) _ _ c.partition_point-first.ensures.partitioned
    (sides_parted pair_total (λ (p : ℕ × ℕ). p) wanted xs c.requires 1) (λ a r q k. search rules) in
    let found = c.in-Some.ensures.lookup.3 in
    c.is_own.ensures
    ∙ own_hit c.args.index_sid c.args.start c.args.end xs c.partition_point-first.result c.requires parted.0 parted.1
    c.in-Some.pair.now found.0 found.1
