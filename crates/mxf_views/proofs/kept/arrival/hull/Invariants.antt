use Rattle.mxf_views.proofs.ClearChanges.{HullSoFar}
use Rattle.mxf_views.proofs.kept.arrival.hull.Given as goal

abbrev pub invariant-loop-other : goal.invariant-loop-other
invariant-loop-other l = HullSoFar l.note l.catalogue l.start l.end l.other-iterator
