use Rattle.mxf_views.proofs.Common.{◌≡◌, ◌++◌, drop, map, take, renewed}
use Rattle.mxf_views.proofs.kept.copies.renew.Given as goal

abbrev pub invariant-loop-copy : goal.invariant-loop-copy
invariant-loop-copy l = l.copy-items ≡ map (renewed l.catalogue l.arrival.start l.arrival.end l.arrival.can_bring_start)
    (take l.copy-index l.fn.copies.items) ++ drop l.copy-index l.fn.copies.items
