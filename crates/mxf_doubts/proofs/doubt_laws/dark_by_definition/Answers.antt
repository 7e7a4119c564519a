use Rattle.mxf_doubts.proofs.StrangeLaws.{dark}
use Rattle.mxf_doubts.proofs.doubt_laws.dark_by_definition.Goals as goal

pub returns : goal.returns
returns c = dark
