use Rattle.mxf_units.proofs.HeldUnits.{held_units}
use Rattle.mxf_units.proofs.units.held_units_are_held.Goals as goal

pub returns : goal.returns
returns c = held_units
