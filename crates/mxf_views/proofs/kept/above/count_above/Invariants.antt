use Rattle.mxf_views.proofs.Common.{◌≡◌, ◌++◌, drop, map, take, counted_above}
use Rattle.mxf_views.proofs.kept.above.count_above.Given as goal

abbrev pub invariant-loop-copy : goal.invariant-loop-copy
invariant-loop-copy l = l.copies
    ≡ map (λ c. counted_above l.sums.notes l.sums.boundary l.starting c c.start) (take l.copy-index l.fn.copies)
    ++ drop l.copy-index l.fn.copies
