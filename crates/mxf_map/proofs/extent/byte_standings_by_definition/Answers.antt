use Rattle.mxf_map.proofs.ExtentLaws.{standing-says}
use Rattle.mxf_map.proofs.extent.byte_standings_by_definition.Goals as goal

pub returns : goal.returns
returns c = standing-says
