use Rattle.std.proofs.Common.{◌≡◌, true, false, None, Some, refl, sym, subst, arith}
use Rattle.std.specs.Option.{IfNone}
use Rattle.mxf_find.specs.Telling.{IsNoneOf, is_teller_by_value}
use Rattle.mxf_find.proofs.TellerLaws.{either_false, lent, or_false, value_held, value_none, value_one, value_unsound}
use Rattle.mxf_find.proofs.recording.Recording.teller_by_value.Goals as goal

pub returns-in_err-only-clause-none : goal.returns-in_err-only-clause-none
returns-in_err-only-clause-none c =
    let is = lent _ _ c.args.self.now c.deref.result.now c.self.invariant c.self.view_is c.deref.ensures.value in
    subst (λ o. IfNone o (IsNoneOf (is_teller_by_value c.args.self.now c.args.note.now) c.args.self.now))
    (sym c.from_residual.ensures)
    (value_none c.args.self.now c.deref.result.now is c.args.note.now None c.in_err-only.ensures refl)

pub is_sound-requires : goal.is_sound-requires
is_sound-requires c =
    let is = lent _ _ c.args.self.now c.deref.result.now c.self.invariant c.self.view_is c.deref.ensures.value in
    value_held c.args.self.now c.deref.result.now is c.args.note.now (Some c.in_ok-only.only.now) c.in_ok-only.ensures
    c.in_ok-only.only.now refl

pub returns-then-is_head-clause-none : goal.returns-then-is_head-clause-none
returns-then-is_head-clause-none c =
    let is = lent _ _ c.args.self.now c.deref.result.now c.self.invariant c.self.view_is c.deref.ensures.value in
    let head : c.in_ok-only.only.now.whole ≡ false = grind (arith, c.if-is_head.ensures) in
    value_unsound c.args.self.now c.deref.result.now is c.args.note.now
    (Some c.in_ok-only.only.now) c.in_ok-only.ensures
    c.in_ok-only.only.now refl (either_false _ _ head)

pub returns-then-is_sound-clause-some : goal.returns-then-is_sound-clause-some
returns-then-is_sound-clause-some c =
    let is = lent _ _ c.args.self.now c.deref.result.now c.self.invariant c.self.view_is c.deref.ensures.value in
    let whole : c.in_ok-only.only.now.whole ≡ true = grind (arith, c.if-is_head.ensures) in
    value_one c.args.self.now c.deref.result.now is c.args.note.now (Some c.in_ok-only.only.now) c.in_ok-only.ensures
    c.in_ok-only.only.now refl whole (sym c.if-is_sound.ensures)

pub returns-else-is_sound-clause-none : goal.returns-else-is_sound-clause-none
returns-else-is_sound-clause-none c =
    let is = lent _ _ c.args.self.now c.deref.result.now c.self.invariant c.self.view_is c.deref.ensures.value in
    value_unsound c.args.self.now c.deref.result.now is c.args.note.now
    (Some c.in_ok-only.only.now) c.in_ok-only.ensures
    c.in_ok-only.only.now refl (or_false _ _ (sym c.if-is_sound.ensures))
