use Rattle.mxf_views.proofs.BestLaws.{preferred_is, one_best}
use Rattle.mxf_views.proofs.copy.preferred_by_definition.Goals as goal

pub returns : goal.returns
returns c = record { best = preferred_is; one = one_best }
