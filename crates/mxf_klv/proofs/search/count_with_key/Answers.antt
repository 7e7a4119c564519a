use Rattle.mxf_klv.proofs.Common.{arith}
use Rattle.mxf_klv.proofs.Counts.{count-between}
use Rattle.mxf_klv.proofs.search.count_with_key.Goals as goal

pub overflow_sub-result : goal.overflow_sub-result
overflow_sub-result g c =
    let b = c.below.ensures in
    let u = c.up_to.ensures in
    let e = count-between g.T.Keyed.key c.args.items.now c.args.key _ _ b.bound b.below b.above u.bound u.below u.above in
    omega (arith, e)

pub returns : goal.returns
returns g c =
    let b = c.below.ensures in
    let u = c.up_to.ensures in
    let e = count-between g.T.Keyed.key c.args.items.now c.args.key _ _ b.bound b.below b.above u.bound u.below u.above in
    omega (arith, e)
