use Rattle.mxf_views.proofs.Common.{◌∙◌, ◌<◌, AllByRecursion, RiseBy, ap, arith, refl, subst, sym}
use Rattle.mxf_units.specs.Units.{unit_of}
use Rattle.mxf_units.specs.declared.unit.EditUnit.{EditUnit}
use Rattle.mxf_partial.specs.Questions.{QuestionParts, asked_by}
use Rattle.mxf_partial.specs.Wanted.{IsOwn}
use Rattle.mxf_partial.proofs.AskLaws.{number_of, own_unit}
use Rattle.mxf_partial.proofs.wanted_units.WantedUnits.of_ends.Goals as goal

pub invariant_of-result : goal.invariant_of-result
invariant_of-result c =
    let u = c.args.units.now in
    let first = number_of u c.args.first in
    let last = number_of u c.args.last in
    let less : (unit_of u.known u.index_sid c.args.first).number < (unit_of u.known u.index_sid c.args.last).number =
    omega (arith, first, last, c.requires.order) in
    let are = c.in_ok-questions.ensures in
    let units = ap (λ (q : QuestionParts). q.units) are in (
      subst (RiseBy (λ (e : EditUnit). e.number)) (sym units) ((less, tt), (tt, tt)),
      subst (AllByRecursion (IsOwn u)) (sym units)
          (own_unit u c.args.first _ refl, (own_unit u c.args.last _ refl, tt)),
      are ∙ ap (asked_by u) (sym units),
    )
