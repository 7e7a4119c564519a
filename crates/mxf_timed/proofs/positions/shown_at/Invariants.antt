use Rattle.std.proofs.Common.{take}
use Rattle.mxf_timed.specs.Positions.{IsAnswer, IsRange}
use Rattle.mxf_timed.proofs.positions.shown_at.Given as goal

abbrev pub invariant-loop-run : goal.invariant-loop-run
invariant-loop-run l = IsAnswer (IsRange (take l.run-index l.runs) l.fn.word) l.found
