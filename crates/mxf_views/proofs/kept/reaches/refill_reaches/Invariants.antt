-- What is there and what is to come are the reaches of the copies, and there is room for them.
use Rattle.mxf_views.proofs.Common.{◌≡◌, ◌++◌, ◌+◌, ◌≤◌, drop, length, vec_capacity, vec_len, reaches_from, reaches_of}
use Rattle.mxf_views.proofs.kept.reaches.refill_reaches.Given as goal

abbrev pub invariant-loop-copy : goal.invariant-loop-copy
invariant-loop-copy l =
    (l.reaches.items ++ reaches_from l.greatest (drop l.copy-index (drop l.fn.settled l.copies)) ≡ reaches_of l.copies)
    × (vec_len l.reaches ≡ l.fn.settled + l.copy-index) × (length l.copies ≤ vec_capacity l.reaches)
