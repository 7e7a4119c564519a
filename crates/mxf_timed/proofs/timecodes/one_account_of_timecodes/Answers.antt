use Rattle.mxf_timed.proofs.TimecodeLaws.{ends-same, timecode-same}
use Rattle.mxf_timed.proofs.timecodes.one_account_of_timecodes.Goals as goal

pub returns-clause-by : goal.returns-clause-by
returns-clause-by c = timecode-same

pub returns-clause-within : goal.returns-clause-within
returns-clause-within c = ends-same
