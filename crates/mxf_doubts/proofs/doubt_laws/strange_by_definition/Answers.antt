use Rattle.mxf_doubts.proofs.StrangeLaws.{strange}
use Rattle.mxf_doubts.proofs.doubt_laws.strange_by_definition.Goals as goal

pub returns : goal.returns
returns c = strange
