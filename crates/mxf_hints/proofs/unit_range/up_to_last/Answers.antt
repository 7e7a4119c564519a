use Rattle.std.proofs.Common.{arith}
use Rattle.mxf_units.proofs.LastLaws.{one-last, one-or-none}
use Rattle.mxf_hints.proofs.unit_range.up_to_last.Goals as goal

pub returns-in_default : goal.returns-in_default
returns-in_default c = λ last is. absurd (one-or-none c.args.views.now c.args.index_sid last is c.in_default.ensures)

pub returns-then-last-first : goal.returns-then-last-first
returns-then-last-first c = λ last is.
    let same = one-last c.args.views.now c.args.index_sid last c.in-Some.last is c.in-Some.ensures in
    let below = c.if-last-first.true in omega (arith, same, below)
