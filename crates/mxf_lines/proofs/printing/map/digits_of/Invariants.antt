-- The digits so far, with those of what is left but one.
use Rattle.std.proofs.Common.{◌≡◌, ◌+◌, ◌≤◌, decimal, length}
use Rattle.mxf_lines.proofs.printing.map.digits_of.Given as goal

abbrev pub invariant-loop-left : goal.invariant-loop-left
invariant-loop-left l = (l.digits + length (decimal l.left) ≡ length (decimal l.fn.number) + 1) × (l.left ≤ l.fn.number)

abbrev pub decreases-loop-left : goal.decreases-loop-left
decreases-loop-left l = l.left
