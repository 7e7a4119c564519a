-- The offsets so far are those of the ranges so far.
use Rattle.mxf_views.proofs.Common.{take, SameOffsets}
use Rattle.mxf_units.proofs.covers.cover_of_each.Given as goal

abbrev pub invariant-loop-run : goal.invariant-loop-run
invariant-loop-run l = SameOffsets l.cover (take l.run-index l.runs)
