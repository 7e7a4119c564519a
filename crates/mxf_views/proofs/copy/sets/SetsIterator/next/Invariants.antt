use Rattle.mxf_views.proofs.Common.{◌≡◌, length, filter, is_set_note}
use Rattle.mxf_views.proofs.copy.sets.SetsIterator.next.Given as goal

abbrev pub invariant-loop-note : goal.invariant-loop-note
invariant-loop-note l = filter is_set_note l.self-inside.zone ≡ l.fn.self

abbrev pub decreases-loop-note : goal.decreases-loop-note
decreases-loop-note l = length l.self-inside.zone
