-- Those so far, and those of the starts to come.
use Rattle.std.proofs.Common.{◌≡◌, ◌++◌, None, drop}
use Rattle.mxf_doubts.specs.UnitStarts.{first_misses}
use Rattle.mxf_doubts.proofs.starts.first_misses.Given as goal

abbrev pub invariant-loop-start : goal.invariant-loop-start
invariant-loop-start l = l.offsets.items ++ first_misses l.before (drop l.start-index l.starts) ≡ first_misses None l.fn.starts
