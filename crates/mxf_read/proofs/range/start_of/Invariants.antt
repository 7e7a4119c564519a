-- No piece may begin at the positions that were passed.
use Rattle.std.proofs.Common.{◌-◌, ◌≤◌, length}
use Rattle.mxf_read.proofs.Starts.{NoneOf}
use Rattle.mxf_read.proofs.range.start_of.Given as goal

abbrev pub invariant-labels : goal.invariant-labels
invariant-labels l = record { within : l.passed ≤ length l.window; none : NoneOf l.offset l.window l.passed }

abbrev pub decreases-labels : goal.decreases-labels
decreases-labels l = length l.window - l.passed
