use Rattle.mxf_views.proofs.Common.{arith, ap, subst}
use Rattle.mxf_units.specs.EvenUnits.{AreAtHandTogether, AreEven, AreHeldTogether, AreNeitherTogether, EvenParts}
use Rattle.mxf_units.proofs.EvenLaws.{hand_together, held_together, moved, neither_together}
use Rattle.mxf_units.proofs.even_units.EvenUnits.common.Goals as goal

pub overflow_add-from : goal.overflow_add-from
overflow_add-from c =
    let n = c.self.invariant.number in
    let l = ap (λ (p : EvenParts). p.last) c.self.view_is in
    let h = c.requires.high in omega (arith, n, l, h)

pub returns-then-are_held : goal.returns-then-are_held
returns-then-are_held c = λ k at before.
    held_together c.args.self.now (subst AreEven c.self.view_is c.self.invariant) c.args.from c.args.count c.requires.low
    c.requires.high k at before (moved AreHeldTogether _ _ _ _ _ _ (ap (λ (p : EvenParts). p.units) c.self.view_is)
    c.start_of-start.ensures c.start_of-end.ensures (c.are_held.ensures c.if-are_held.true))

pub returns-then-are_at_hand : goal.returns-then-are_at_hand
returns-then-are_at_hand c = λ k at before.
    hand_together c.args.self.now (subst AreEven c.self.view_is c.self.invariant) c.args.from c.args.count c.requires.low
    c.requires.high k at before (moved AreAtHandTogether _ _ _ _ _ _ (ap (λ (p : EvenParts). p.units) c.self.view_is)
    c.start_of-start.ensures c.start_of-end.ensures (c.are_at_hand.ensures c.if-are_at_hand.true))

pub returns-then-are_neither : goal.returns-then-are_neither
returns-then-are_neither c = λ k at before.
    neither_together c.args.self.now (subst AreEven c.self.view_is c.self.invariant) c.args.from c.args.count
    c.requires.low c.requires.high k at before (moved AreNeitherTogether _ _ _ _ _ _
    (ap (λ (p : EvenParts). p.units) c.self.view_is) c.start_of-start.ensures c.start_of-end.ensures
    (c.are_neither.ensures c.if-are_neither.true))
