-- What waits, and what of the old catalogues is merged.
use Rattle.std.proofs.Common.{length}
use Rattle.mxf_read.proofs.LevelLaws.{IsAdding}
use Rattle.mxf_read.proofs.gathering.levels.Levels.add.Given as goal

abbrev pub invariant-levels : goal.invariant-levels
invariant-levels l = IsAdding l.merged l.self l.fn.catalogue l.initial.self

abbrev pub decreases-levels : goal.decreases-levels
decreases-levels l = length l.self
