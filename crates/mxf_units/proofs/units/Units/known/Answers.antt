use Rattle.std.proofs.Common.{subst}
use Rattle.mxf_units.specs.Units.{AreKnown, UnitsParts}
use Rattle.mxf_units.proofs.units.Units.known.Goals as goal

pub returns : goal.returns
returns c = subst (λ (u : UnitsParts). AreKnown u.known c.self.inside.known) c.self.view_is c.self.invariant.3
