use Rattle.mxf_views.proofs.Common.{◌≡◌, ◌∙◌, ◌+◌, ◌-◌, ap, arith}
use Rattle.mxf_units.specs.Ranges.{units_from}
use Rattle.mxf_partial.specs.Questions.{QuestionParts, asked_by, both}
use Rattle.mxf_partial.proofs.QuestionLaws.{asked_all, asked_next}
use Rattle.mxf_partial.proofs.questions.Questions.of.Goals as goal

pub loop-number-init : goal.loop-number-init
loop-number-init c =
    let u = c.args.units.now in
    let first = c.args.first in
    let count = c.args.count in
    let same : first + count - first ≡ count = omega arith in
    ap (λ (q : QuestionParts). both q (asked_by u (units_from u first (first + count - first)))) (c.in_ok-asked.ensures u)
    ∙ ap (λ k. asked_by u (units_from u first k)) same

pub loop-number-preserved : goal.loop-number-preserved
loop-number-preserved c = asked_next c.args.units.now c.loop-number.asked c.add.new.self _ c.loop-number.number
    (c.args.first + c.args.count) c.loop-number-test.true c.in_ok-add.ensures c.loop-number.invariant

pub returns : goal.returns
returns c = asked_all c.args.units.now c.loop-number.asked _ c.loop-number.number (c.args.first + c.args.count)
    c.loop-number-test.false c.loop-number.invariant
