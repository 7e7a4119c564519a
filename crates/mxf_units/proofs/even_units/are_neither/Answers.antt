use Rattle.std.proofs.Common.{◌∙◌, sym}
use Rattle.mxf_units.proofs.EvenLaws.{beside_tests, disputed_tests, none_tests}
use Rattle.mxf_units.proofs.even_units.are_neither.Goals as goal
use Rattle.mxf_units.proofs.even_units.are_neither.Goals.{then-not-is_any_known, else-not-is_any_known}

pub returns-then-has_all : goal.returns-then-has_all
returns-then-has_all c = λ t. elim c.if-not-is_any_known.branch [
  | then-not-is_any_known w ↦ none_tests c.args.units.now c.known.result.now c.args.from c.args.to c.is_any_known.result
      c.known.ensures c.is_any_known.ensures (sym w.value-is ∙ c.if-has_all.true)
  | else-not-is_any_known w ↦ disputed_tests c.args.units.now w.holdings.result.now w.disputed.result.now c.args.from
      c.args.to w.holdings.ensures w.disputed.ensures (w.has_all.ensures.0 (sym w.value-is ∙ c.if-has_all.true))
]

pub returns-else-has_all : goal.returns-else-has_all
returns-else-has_all c = λ t.
    beside_tests c.args.units.now c.beside.result.now c.args.from c.args.to c.beside.ensures
    (c.has_all-else-has_all.ensures.0 t)
