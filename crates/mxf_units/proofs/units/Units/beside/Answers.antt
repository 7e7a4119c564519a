use Rattle.std.proofs.Common.{subst}
use Rattle.mxf_units.specs.Units.{AreBesideEssence, UnitsParts}
use Rattle.mxf_units.proofs.units.Units.beside.Goals as goal

pub returns : goal.returns
returns c =
    subst (λ (u : UnitsParts). AreBesideEssence u.known.notes c.self.inside.beside) c.self.view_is c.self.invariant.4
