use Rattle.mxf_doubts.proofs.LoneLaws.{lone}
use Rattle.mxf_doubts.proofs.strange.lone_by_definition.Goals as goal

pub returns : goal.returns
returns c = lone
