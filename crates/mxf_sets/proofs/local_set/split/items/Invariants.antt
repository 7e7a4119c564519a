use Rattle.std.proofs.Common.{◌≡◌, ◌≤◌, length}
use Rattle.mxf_sets.specs.Items.{left_of}
use Rattle.mxf_sets.proofs.local_set.split.items.Given as goal

abbrev pub invariant-loop-after : goal.invariant-loop-after
invariant-loop-after l = (left_of l.rest ≡ left_of l.value) × (length l.rest ≤ length l.value)

abbrev pub decreases-loop-after : goal.decreases-loop-after
decreases-loop-after l = length l.rest
