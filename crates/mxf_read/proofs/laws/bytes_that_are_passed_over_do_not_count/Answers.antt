use Rattle.mxf_read.proofs.SkimsAndReadings.{passed_alike}
use Rattle.mxf_read.proofs.laws.bytes_that_are_passed_over_do_not_count.Goals as goal

pub returns : goal.returns
returns c = passed_alike
