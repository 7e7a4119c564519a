use Rattle.mxf_places.proofs.EdgeLaws.{edge_says}
use Rattle.mxf_places.proofs.held.edges_by_definition.Goals as goal

pub returns : goal.returns
returns c at notes edge cover = edge_says at notes edge cover
