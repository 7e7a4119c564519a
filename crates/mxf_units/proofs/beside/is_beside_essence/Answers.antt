use Rattle.mxf_views.proofs.Common.{◌∙◌, arith, sym, false_from_ne_true, le-ltb, same_bool}
use Rattle.mxf_units.specs.Units.{is_beside_essence}
use Rattle.mxf_units.proofs.BesideLaws.{beside-says}
use Rattle.mxf_units.proofs.beside.is_beside_essence.Goals as goal

pub returns-then-offset-from : goal.returns-then-offset-from
returns-then-offset-from c = grind (arith, same_bool, is_beside_essence, beside-says)

pub returns-else-offset-from : goal.returns-else-offset-from
returns-else-offset-from c = λ notes are.
    let x = c.args.offset in
    le-ltb x c.from.result (omega (arith, c.if-offset-from.false))
    ∙ sym (false_from_ne_true (is_beside_essence notes x) (λ h.
    let below = (c.end.ensures c.end.result).0 (omega arith) x ((are x).1 ((beside-says notes x).0 h)) in
    omega (arith, c.if-offset-from.false, c.from.ensures, below)))
