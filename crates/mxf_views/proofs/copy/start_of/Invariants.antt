use Rattle.mxf_views.proofs.StartWalk.{Passed}
use Rattle.mxf_views.proofs.copy.start_of.Given as goal

abbrev pub invariant-loop-note : goal.invariant-loop-note
invariant-loop-note l = Passed l.catalogue l.end l.reached l.note-iterator
