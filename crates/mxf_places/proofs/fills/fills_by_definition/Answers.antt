use Rattle.mxf_places.proofs.OverLaws.{over_says}
use Rattle.mxf_places.proofs.fills.fills_by_definition.Goals as goal

pub returns : goal.returns
returns c notes from to content = over_says notes content from to
