-- What is there and what is to come are the copies before and the new ones, and there is room for them.
use Rattle.mxf_views.proofs.Common.{◌≡◌, ◌+◌, ◌++◌, ◌≤◌, drop, vec_capacity, vec_len, count_by, clear_notes}
use Rattle.mxf_views.proofs.Common.{copies_among, has_metadata}
use Rattle.mxf_views.proofs.kept.sums.append_copies.Given as goal

abbrev pub invariant-loop-partition : goal.invariant-loop-partition
invariant-loop-partition l =
    (l.copies.items ++ copies_among (clear_notes l.sums.notes) (drop l.partition-index l.partitions)
    ≡ l.fn.copies.items ++ copies_among (clear_notes l.sums.notes) l.partitions)
    × (vec_len l.copies + count_by has_metadata (drop l.partition-index l.partitions) ≤ vec_capacity l.copies)
