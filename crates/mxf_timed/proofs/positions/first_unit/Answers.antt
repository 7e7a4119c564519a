use Rattle.std.proofs.Common.{◌≡◌, ◌*◌, ◌∙◌, ap, arith, rules, Fits, w64}
use Rattle.mxf_clocks.specs.declared.fraction.Fraction.{Fraction}
use Rattle.mxf_timed.proofs.GoneLaws.{few_parts}
use Rattle.mxf_timed.proofs.positions.first_unit.Goals as goal

pub overflow_mul-parts : goal.overflow_mul-parts
overflow_mul-parts c =
    let run = c.args.run.now in
    let gone = c.args.gone in
    let numerator : c.step-step.result.numerator ≡ run.step.numerator =
    ap (λ (s : Fraction). s.numerator) c.step-step.ensures in
    let denominator : c.from.result ≡ run.step.denominator =
    c.from.ensures ∙ ap (λ (s : Fraction). s.denominator) c.step-step.ensures in
    let fits : Fits w64 c.step-step.result.numerator = search rules in
    let few = few_parts run.passed run.step.numerator run.step.denominator c.args.most gone
    (omega arith) (omega (arith, fits, numerator)) c.ranges.most.fits c.requires in
    let same : gone * c.from.result ≡ gone * run.step.denominator = ap (λ d. gone * d) denominator in
    omega (arith, few, same)
