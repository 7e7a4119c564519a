use Rattle.mxf_read.proofs.Starts.{no_start_is, one_start}
use Rattle.mxf_read.proofs.range.each_range_has_one_start.Goals as goal

pub returns-clause-some : goal.returns-clause-some
returns-clause-some c = one_start

pub returns-clause-none : goal.returns-clause-none
returns-clause-none c = no_start_is
