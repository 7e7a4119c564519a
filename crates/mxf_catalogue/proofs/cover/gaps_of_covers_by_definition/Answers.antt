use Rattle.mxf_catalogue.proofs.CoverLaws.{gaps_by_definition}
use Rattle.mxf_catalogue.proofs.cover.gaps_of_covers_by_definition.Goals as goal

pub returns : goal.returns
returns c = gaps_by_definition
