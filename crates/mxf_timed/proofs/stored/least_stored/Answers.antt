use Rattle.std.proofs.Common.{◌≤◌, ◌<◌, ◌+◌, arith, min, subst}
use Rattle.mxf_timed.specs.Stored.{IsLeastStored}
use Rattle.mxf_timed.proofs.StoredLaws.{least_of_all}
use Rattle.mxf_timed.proofs.stored.least_stored.Goals as goal

pub returns : goal.returns
returns c =
    let u = c.args.units.now in
    let first = c.first-first.result in
    let last = c.args.positions.last in
    let limit = c.loop-position.position in
    let least = c.loop-position.least in
    let le : first ≤ last = omega (arith, c.first-first.ensures, c.args.positions.some) in
    let far : min last (first + 254) < limit =
    omega (arith, c.min-end.ensures, c.last.ensures.last, c.loop-position-test.false) in
    subst (λ f. IsLeastStored u f last least) c.first-first.ensures
    (least_of_all u first last limit least le far c.loop-position.invariant)
