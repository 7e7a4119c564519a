use Rattle.mxf_views.proofs.Common.{◌∙◌, ℕ, arith, sym, same_bool}
use Rattle.mxf_units.specs.Units.{IsKnown, are_all_known}
use Rattle.mxf_units.proofs.RangeLaws.{all-empty, all-past, all_known-says, lt-leb}
use Rattle.mxf_units.proofs.location.are_all_known.Goals as goal

pub returns-then-from-to : goal.returns-then-from-to
returns-then-from-to c = grind (arith, all-empty, all_known-says)

pub returns-then-to-from : goal.returns-then-to-from
returns-then-to-from c = λ known are.
    let says = all_known-says known c.args.from c.args.to in
    same_bool c.has_all.result _ (λ h. says.1 (λ x l r. (are x).0 (c.has_all.ensures.0 h x l r)))
    (λ h. c.has_all.ensures.1 (λ x l r. (are x).1 (says.0 h x l r)))

pub returns-else-to-from : goal.returns-else-to-from
returns-else-to-from c = λ known are.
    let below = λ (x : ℕ) (k : IsKnown known x). (c.end.ensures c.end.result).0 (omega arith) x ((are x).1 k) in
    lt-leb c.args.to c.from.result (omega (arith, c.if-to-from.false))
    ∙ sym (all-past (IsKnown known) c.args.from c.args.to (are_all_known known c.args.from c.args.to) c.end.result
    (all_known-says known c.args.from c.args.to) below (omega (arith, c.if-from-to.false))
    (omega (arith, c.if-to-from.false, c.from.ensures)))
