use Rattle.mxf_units.specs.Units.{unit_of}
use Rattle.mxf_timed.proofs.PlaceLaws.{stored_is}
use Rattle.mxf_timed.proofs.stored.stored_by_definition.Goals as goal

pub returns : goal.returns
returns c = λ u position unit. stored_is position (unit_of u.known u.index_sid position).temporal unit
