use Rattle.mxf_views.proofs.Common.{◌<◌, ◌/◌, ℕ, subst, sym}
use Rattle.mxf_clocks.specs.Fractions.{greatest_divisor}
use Rattle.mxf_clocks.proofs.FractionLaws.{multiples, some_part}
use Rattle.mxf_clocks.proofs.fraction.lowest.Goals as goal

pub returns-clause-some : goal.returns-clause-some
returns-clause-some c =
    let a = c.args.a in
    let b = c.args.b in
    let g = greatest_divisor a b in
    let m = multiples a b c.requires.upper in
    subst (λ (d : ℕ). (0 < a / d) × (0 < b / d)) (sym c.greatest_divisor-divisor.ensures.divisor)
    (some_part a g (a / g) c.requires.upper m.first, some_part b g (b / g) c.requires.lower m.second)
