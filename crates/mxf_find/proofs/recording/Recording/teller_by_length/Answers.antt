use Rattle.mxf_klv.proofs.Common.{None, Some, refl, sym, subst, IfNone}
use Rattle.mxf_find.specs.Telling.{IsNoneOf, is_teller_by_length}
use Rattle.mxf_find.proofs.TellerLaws.{lent, length_held, length_none, length_one, length_unsound}
use Rattle.mxf_find.proofs.recording.Recording.teller_by_length.Goals as goal

pub returns-in_err-only-clause-none : goal.returns-in_err-only-clause-none
returns-in_err-only-clause-none c =
    let is = lent _ _ c.args.self.now c.deref.result.now c.self.invariant c.self.view_is c.deref.ensures.value in
    subst (λ o. IfNone o (IsNoneOf (is_teller_by_length c.args.self.now c.args.note.now) c.args.self.now))
    (sym c.from_residual.ensures)
    (length_none c.args.self.now c.deref.result.now is c.args.note.now None c.in_err-only.ensures refl)

pub is_sound-requires : goal.is_sound-requires
is_sound-requires c =
    let is = lent _ _ c.args.self.now c.deref.result.now c.self.invariant c.self.view_is c.deref.ensures.value in
    length_held c.args.self.now c.deref.result.now is c.args.note.now (Some c.in_ok-only.only.now) c.in_ok-only.ensures
    c.in_ok-only.only.now refl

pub returns-then-is_sound-clause-some : goal.returns-then-is_sound-clause-some
returns-then-is_sound-clause-some c =
    let is = lent _ _ c.args.self.now c.deref.result.now c.self.invariant c.self.view_is c.deref.ensures.value in
    length_one c.args.self.now c.deref.result.now is c.args.note.now (Some c.in_ok-only.only.now) c.in_ok-only.ensures
    c.in_ok-only.only.now refl (sym c.if-is_sound.ensures)

pub returns-else-is_sound-clause-none : goal.returns-else-is_sound-clause-none
returns-else-is_sound-clause-none c =
    let is = lent _ _ c.args.self.now c.deref.result.now c.self.invariant c.self.view_is c.deref.ensures.value in
    length_unsound c.args.self.now c.deref.result.now is c.args.note.now
    (Some c.in_ok-only.only.now) c.in_ok-only.ensures
    c.in_ok-only.only.now refl (sym c.if-is_sound.ensures)
