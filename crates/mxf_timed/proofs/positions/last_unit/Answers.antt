use Rattle.std.proofs.Common.{◌≡◌, ◌+◌, ◌*◌, ◌∙◌, ap, arith, rules, Fits, w64}
use Rattle.mxf_clocks.specs.declared.fraction.Fraction.{Fraction}
use Rattle.mxf_timed.proofs.GoneLaws.{few_parts, last_is}
use Rattle.mxf_timed.proofs.positions.last_unit.Goals as goal

pub overflow_mul-parts : goal.overflow_mul-parts
overflow_mul-parts c =
    let run = c.args.run.now in
    let gone = c.args.gone in
    let numerator : c.step-step.result.numerator ≡ run.step.numerator =
    ap (λ (s : Fraction). s.numerator) c.step-step.ensures in
    let denominator : c.from.result ≡ run.step.denominator =
    c.from.ensures ∙ ap (λ (s : Fraction). s.denominator) c.step-step.ensures in
    let fits : Fits w64 c.step-step.result.numerator = search rules in
    let few = few_parts run.passed run.step.numerator run.step.denominator c.args.most (gone + 1)
    (omega arith) (omega (arith, fits, numerator)) c.ranges.most.fits (omega arith) in
    let same : (gone + 1) * c.from.result ≡ (gone + 1) * run.step.denominator = ap (λ d. (gone + 1) * d) denominator in
    omega (arith, few, same)

pub overflow_cast-result : goal.overflow_cast-result
overflow_cast-result c =
    let run = c.args.run.now in
    let last = last_is run.passed run.step.numerator run.step.denominator c.args.most c.args.gone c.gone_after.result
    c.from-2.result c.from-3.result c.from.result c.requires c.if-gone_after-gone.false c.gone_after.ensures.gone
    (c.from.ensures ∙ ap (λ (s : Fraction). s.denominator) c.step-step.ensures)
    (c.from-2.ensures ∙ c.passed-passed.ensures)
    (c.from-3.ensures ∙ ap (λ (s : Fraction). s.numerator) c.step-step.ensures) in
    omega (arith, last.within, c.ranges.most.fits)

pub returns-clause-last : goal.returns-clause-last
returns-clause-last c =
    let run = c.args.run.now in
    let last = last_is run.passed run.step.numerator run.step.denominator c.args.most c.args.gone c.gone_after.result
    c.from-2.result c.from-3.result c.from.result c.requires c.if-gone_after-gone.false c.gone_after.ensures.gone
    (c.from.ensures ∙ ap (λ (s : Fraction). s.denominator) c.step-step.ensures)
    (c.from-2.ensures ∙ c.passed-passed.ensures)
    (c.from-3.ensures ∙ ap (λ (s : Fraction). s.numerator) c.step-step.ensures) in
    λ unit le. last.each unit

pub returns-clause-most : goal.returns-clause-most
returns-clause-most c =
    let run = c.args.run.now in
    let last = last_is run.passed run.step.numerator run.step.denominator c.args.most c.args.gone c.gone_after.result
    c.from-2.result c.from-3.result c.from.result c.requires c.if-gone_after-gone.false c.gone_after.ensures.gone
    (c.from.ensures ∙ ap (λ (s : Fraction). s.denominator) c.step-step.ensures)
    (c.from-2.ensures ∙ c.passed-passed.ensures)
    (c.from-3.ensures ∙ ap (λ (s : Fraction). s.numerator) c.step-step.ensures) in
    last.within
