use Rattle.std.proofs.Common.{◌∙◌, sym}
use Rattle.mxf_units.proofs.EvenLaws.{held_tests}
use Rattle.mxf_units.proofs.even_units.are_held.Goals as goal
use Rattle.mxf_units.proofs.even_units.are_held.Goals.{then-are_all_held, else-are_all_held}

pub returns-then-not-is_any_disputed : goal.returns-then-not-is_any_disputed
returns-then-not-is_any_disputed c = λ t. elim c.if-are_all_held.branch [
  | then-are_all_held w ↦ held_tests c.args.units.now c.holdings.result.now w.holdings-then-are_all_held.result.now
      c.beside.result.now c.args.from c.args.to c.are_all_held.result w.is_any_disputed.result c.meets.result
      c.holdings.ensures w.holdings-then-are_all_held.ensures c.beside.ensures c.are_all_held.ensures
      w.is_any_disputed.ensures c.meets.ensures w.if-are_all_held.true
      (sym w.value-is ∙ c.if-not-is_any_disputed.true) t
  | else-are_all_held w ↦ absurd (let e = sym w.value-is ∙ c.if-not-is_any_disputed.true in cc e)
]
