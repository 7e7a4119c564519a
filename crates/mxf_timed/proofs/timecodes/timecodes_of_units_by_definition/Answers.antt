use Rattle.mxf_timed.proofs.TimecodeLaws.{shows-is}
use Rattle.mxf_timed.proofs.timecodes.timecodes_of_units_by_definition.Goals as goal

pub returns : goal.returns
returns c = shows-is
