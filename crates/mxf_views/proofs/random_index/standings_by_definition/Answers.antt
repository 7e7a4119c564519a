use Rattle.mxf_views.proofs.RandomIndexLaws.{standing_iff}
use Rattle.mxf_views.proofs.random_index.standings_by_definition.Goals as goal

pub returns : goal.returns
returns c = standing_iff
