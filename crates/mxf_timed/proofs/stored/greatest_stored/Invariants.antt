use Rattle.mxf_timed.proofs.StoredLaws.{IsGreatestBelow}
use Rattle.mxf_timed.proofs.stored.greatest_stored.Given as goal

abbrev pub invariant-loop-position : goal.invariant-loop-position
invariant-loop-position l = IsGreatestBelow l.units l.fn.positions.first l.last l.start l.position l.greatest
