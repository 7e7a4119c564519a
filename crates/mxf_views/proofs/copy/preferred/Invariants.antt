use Rattle.mxf_views.proofs.Common.{◌≡◌, drop, best_of, preferred_of}
use Rattle.mxf_views.proofs.copy.preferred.Given as goal

-- The best of those so far and of those that are left is the preferred one.
abbrev pub invariant-loop-copy : goal.invariant-loop-copy
invariant-loop-copy l = best_of l.best (drop l.copy-index l.copies) ≡ preferred_of l.copies
