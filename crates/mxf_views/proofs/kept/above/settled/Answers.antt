use Rattle.mxf_views.proofs.Common.{◌<◌, ℕ, List, arith, subst, sym, AllWithin, IsNonDecreasing}
use Rattle.mxf_views.proofs.ReachLaws.{ends_by_reach, reaches_never_fall}
use Rattle.mxf_views.proofs.kept.above.settled.Goals as goal

pub below-ended-requires : goal.below-ended-requires
below-ended-requires c = subst IsNonDecreasing (sym c.requires) (reaches_never_fall 0 c.args.copies.now)

pub returns-clause-ended : goal.returns-clause-ended
returns-clause-ended c =
    let limit = c.saturating_add.result in
    let sum = c.saturating_add.ensures in
    let least = c.min.ensures in
    let most = c.saturating_sub.ensures in
    let below = subst (λ (l : List ℕ). AllWithin (λ r. r < limit) l 0 c.below-ended.result) c.requires
    c.below-ended.ensures.below in
    ends_by_reach c.args.copies.now limit c.args.boundary c.min.result (omega (arith, sum)) (omega (arith, sum))
    (omega (arith, least, most)) (λ k d from up. below k d from (omega (arith, up, least)))
