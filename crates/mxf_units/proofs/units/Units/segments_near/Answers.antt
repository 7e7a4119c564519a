use Rattle.std.proofs.Common.{◌≡◌, ◌∙◌, subst}
use Rattle.mxf_units.specs.Streams.{entry_of, is_given, place_of, segments_for}
use Rattle.mxf_units.specs.Units.{UnitsParts}
use Rattle.mxf_units.proofs.WalkLaws.{said-entry, said-given, said-place}
use Rattle.mxf_units.proofs.units.Units.segments_near.Goals as goal

pub returns-clause-place : goal.returns-clause-place
returns-clause-place c = subst (λ (u : UnitsParts). place_of c.near.result.now c.args.unit
    ≡ place_of (segments_for u.known.notes u.index_sid) c.args.unit) c.self.view_is
    (c.near.ensures.place ∙ said-place c.args.unit _ _ c.self.invariant.0)

pub returns-clause-entry : goal.returns-clause-entry
returns-clause-entry c = subst (λ (u : UnitsParts). entry_of c.near.result.now c.args.unit
    ≡ entry_of (segments_for u.known.notes u.index_sid) c.args.unit) c.self.view_is
    (c.near.ensures.entry ∙ said-entry c.args.unit _ _ c.self.invariant.0)

pub returns-clause-given : goal.returns-clause-given
returns-clause-given c = λ p. subst (λ (u : UnitsParts). is_given p c.args.unit c.near.result.now
    ≡ is_given p c.args.unit (segments_for u.known.notes u.index_sid)) c.self.view_is
    (c.near.ensures.given p ∙ said-given c.args.unit _ _ c.self.invariant.0 p)
