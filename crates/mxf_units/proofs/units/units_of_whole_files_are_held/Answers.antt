use Rattle.mxf_units.proofs.WholeFileUnits.{held_whole}
use Rattle.mxf_units.proofs.units.units_of_whole_files_are_held.Goals as goal

pub returns : goal.returns
returns c = held_whole
