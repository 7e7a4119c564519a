use Rattle.mxf_timed.proofs.StoredLaws.{IsLeastBelow}
use Rattle.mxf_timed.proofs.stored.least_stored.Given as goal

abbrev pub invariant-loop-position : goal.invariant-loop-position
invariant-loop-position l = IsLeastBelow l.units l.first l.fn.positions.last l.position l.least
