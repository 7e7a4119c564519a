use Rattle.mxf_views.proofs.Common.{◌≡◌, drop, list_all, partitions_of}
use Rattle.mxf_hints.specs.Shifts.{is_shifted}
use Rattle.mxf_hints.proofs.shift.are_shifted.Given as goal

abbrev pub invariant-loop-partition : goal.invariant-loop-partition
invariant-loop-partition l = list_all (is_shifted l.shift) (drop l.partition-index l.partition-items)
    ≡ list_all (is_shifted l.shift) (partitions_of l.views)
