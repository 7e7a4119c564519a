use Rattle.std.proofs.Common.{◌-◌, arith}
use Rattle.std.proofs.lemmas.Bool.{leb-true}
use Rattle.mxf_units.proofs.even_units.has_all.Goals as goal

-- The set ends below the last of the offsets, so that isn't in it.
pub returns-else-to-from : goal.returns-else-to-from
returns-else-to-from c = (
  λ t. let l = leb-true c.args.to c.from.result t in absurd (omega (arith, l, c.if-to-from.false)),
  λ all.
      let last = c.args.to - 1 in
      let below = (c.end.ensures c.end.result).0 (omega arith) last
      (all last (omega (arith, c.if-from-to.false)) (omega (arith, c.if-from-to.false))) in
      absurd (omega (arith, below, c.from.ensures, c.if-to-from.false, c.if-from-to.false)),
)
