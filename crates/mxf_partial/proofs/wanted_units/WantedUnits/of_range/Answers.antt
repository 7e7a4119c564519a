use Rattle.mxf_views.proofs.Common.{◌∙◌, ◌+◌, ◌-◌, AllByRecursion, RiseBy, ap, subst, sym}
use Rattle.mxf_units.specs.Ranges.{needed_from, units_from}
use Rattle.mxf_units.specs.declared.unit.EditUnit.{EditUnit}
use Rattle.mxf_partial.specs.Questions.{QuestionParts, asked_by}
use Rattle.mxf_partial.specs.Wanted.{IsOwn}
use Rattle.mxf_partial.proofs.AskLaws.{units_own, units_rise}
use Rattle.mxf_partial.proofs.wanted_units.WantedUnits.of_range.Goals as goal

pub invariant_of-result : goal.invariant_of-result
invariant_of-result c =
    let u = c.args.units.now in
    let first = c.first-first.result in
    let count = c.count-count.result in
    let from = needed_from first (units_from u first count) in
    let are = c.in_ok-questions.ensures in
    let units = ap (λ (q : QuestionParts). q.units) are in (
      subst (RiseBy (λ (e : EditUnit). e.number)) (sym units) (units_rise u first count),
      subst (AllByRecursion (IsOwn u)) (sym units) (units_own u from (first - from + count)),
      are ∙ ap (asked_by u) (sym units),
    )
