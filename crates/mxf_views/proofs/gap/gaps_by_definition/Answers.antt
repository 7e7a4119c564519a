use Rattle.mxf_views.proofs.GapsLaws.{gaps_are}
use Rattle.mxf_views.proofs.gap.gaps_by_definition.Goals as goal

pub returns : goal.returns
returns c = gaps_are
