-- Each half of several contents has fewer.
use Rattle.std.proofs.Common.{length}
use Rattle.mxf_readings.proofs.readings.+joined.Given as goal

abbrev pub decreases-joined : goal.decreases-joined
decreases-joined l = length l.contents.now
