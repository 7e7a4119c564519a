use Rattle.mxf_views.proofs.Common.{◌≡◌, length, partitions_among}
use Rattle.mxf_views.proofs.partition.PartitionsIterator.next.Given as goal

abbrev pub invariant-loop-note : goal.invariant-loop-note
invariant-loop-note l = partitions_among l.self-inside.notes ≡ l.fn.self

abbrev pub decreases-loop-note : goal.decreases-loop-note
decreases-loop-note l = length l.self-inside.notes
