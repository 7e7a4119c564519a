-- The reports so far are settled, and the others are as they were.
use Rattle.std.proofs.Common.{◌≡◌, ◌++◌, drop, map, take}
use Rattle.mxf_hand.specs.Settling.{settled}
use Rattle.mxf_hand.proofs.settling.settle_each.Given as goal

abbrev pub invariant-loop-i : goal.invariant-loop-i
invariant-loop-i l =
    l.reports.items ≡ map (settled l.catalogue l.extents) (take l.i l.fn.reports.items) ++ drop l.i l.fn.reports.items
