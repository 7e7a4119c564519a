use Rattle.mxf_views.proofs.RandomIndexLaws.{rip_view_iff}
use Rattle.mxf_views.proofs.random_index.rip_views_by_definition.Goals as goal

pub returns : goal.returns
returns c = rip_view_iff
