use Rattle.std.proofs.Common.{length}
use Rattle.mxf_restore.proofs.first.+steps_of.Given as goal

abbrev pub decreases-steps_of : goal.decreases-steps_of
decreases-steps_of l = length l.claims.now
