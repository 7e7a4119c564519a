-- What waits, and what of the others is merged.
use Rattle.std.proofs.Common.{[], length}
use Rattle.mxf_read.proofs.LevelLaws.{IsAdding}
use Rattle.mxf_read.proofs.gathering.levels.Levels.merged.Given as goal

abbrev pub invariant-levels : goal.invariant-levels
invariant-levels l = IsAdding l.merged l.levels.items [] l.fn.self

abbrev pub decreases-levels : goal.decreases-levels
decreases-levels l = length l.levels.items
