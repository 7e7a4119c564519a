use Rattle.std.proofs.Common.{◌≡◌, ◌-◌, arith, max, subst}
use Rattle.mxf_timed.specs.Stored.{IsGreatestStored}
use Rattle.mxf_timed.proofs.StoredLaws.{greatest_of_all}
use Rattle.mxf_timed.proofs.stored.greatest_stored.Goals as goal

pub returns : goal.returns
returns c =
    let u = c.args.units.now in
    let first = c.args.positions.first in
    let last = c.last-last.result in
    let start = c.max-start.result in
    let greatest = c.loop-position.greatest in
    let is : start ≡ max first (last - 254) =
    omega (arith, c.max-start.ensures, c.first.ensures, c.saturating_sub.ensures) in
    subst (λ l. IsGreatestStored u first l greatest) c.last-last.ensures.last
    (greatest_of_all u first last start c.loop-position.position greatest is c.loop-position-test.false
    c.loop-position.invariant)
