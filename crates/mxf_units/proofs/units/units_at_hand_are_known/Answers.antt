use Rattle.mxf_units.proofs.HeldUnits.{known_units}
use Rattle.mxf_units.proofs.units.units_at_hand_are_known.Goals as goal

pub returns : goal.returns
returns c = known_units
