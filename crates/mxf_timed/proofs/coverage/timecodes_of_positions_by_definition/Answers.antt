use Rattle.mxf_timed.proofs.TimecodeLaws.{timecode-is}
use Rattle.mxf_timed.proofs.coverage.timecodes_of_positions_by_definition.Goals as goal

pub returns : goal.returns
returns c = timecode-is
