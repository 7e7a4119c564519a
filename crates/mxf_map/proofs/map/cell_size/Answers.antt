use Rattle.mxf_map.proofs.MapLaws.{rounded_up}
use Rattle.mxf_map.proofs.map.cell_size.Goals as goal

pub returns-clause-size : goal.returns-clause-size
returns-clause-size c = rounded_up c.args.end c.args.cells c.requires.some c.requires.cells
