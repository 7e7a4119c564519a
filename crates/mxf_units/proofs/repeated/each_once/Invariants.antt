-- Those so far say all, with those to come.
use Rattle.mxf_views.proofs.Common.{into_iter_items}
use Rattle.mxf_units.proofs.RepeatedLaws.{SayAllSoFar}
use Rattle.mxf_units.proofs.repeated.each_once.Given as goal

abbrev pub invariant-loop-segment : goal.invariant-loop-segment
invariant-loop-segment l = SayAllSoFar l.fn.segments.items l.left.items (into_iter_items l.segment-iterator)
