use Rattle.mxf_views.proofs.CopyLaws.{sets_are, sets_apart}
use Rattle.mxf_views.proofs.copy.sets.sets_by_definition.Goals as goal

pub returns : goal.returns
returns c = record { sets = sets_are; rising = sets_apart }
