use Rattle.std.proofs.Common.{subst}
use Rattle.mxf_verify.specs.Fixities.{AreUnitsOf, VerifiedUnitsParts}
use Rattle.mxf_verify.proofs.verified_units.VerifiedUnits.units_of.Goals as goal

pub returns : goal.returns
returns c = subst (λ (v : VerifiedUnitsParts). AreUnitsOf v.places c.args.note.now c.units_of.result) c.self.view_is
    c.units_of.ensures
