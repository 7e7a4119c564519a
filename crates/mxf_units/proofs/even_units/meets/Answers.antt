use Rattle.std.proofs.Common.{arith}
use Rattle.std.proofs.lemmas.Bool.{ltb-true}
use Rattle.mxf_units.proofs.even_units.meets.Goals as goal

pub returns-then-from-end : goal.returns-then-from-end
returns-then-from-end c = (
  λ t. let s = c.meets.ensures.0 t in
      let l = s.3 in (s.0, s.1, s.2, omega (arith, l, c.min.ensures)),
  λ s.
      let below = (c.end.ensures c.end.result).0 (omega arith) s.0 s.1 in
      let l = s.3 in
      c.meets.ensures.1 (s.0, s.1, s.2, omega (arith, l, below, c.min.ensures, c.from-end.ensures)),
)

pub returns-else-from-end : goal.returns-else-from-end
returns-else-from-end c = (
  λ t. let l = ltb-true c.args.from c.from-end.result t in absurd (omega (arith, l, c.if-from-end.false)),
  λ s.
      let below = (c.end.ensures c.end.result).0 (omega arith) s.0 s.1 in
      let l = s.2 in absurd (omega (arith, l, below, c.from-end.ensures, c.if-from-end.false)),
)
