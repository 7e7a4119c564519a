use Rattle.mxf_doubts.proofs.StrangeLaws.{first_primer}
use Rattle.mxf_doubts.proofs.doubt_laws.first_primers_by_definition.Goals as goal

pub returns : goal.returns
returns c = first_primer
