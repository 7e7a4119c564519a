use Rattle.std.proofs.Common.{◌≡◌}
use Rattle.mxf_sets.specs.Lookup.{value_of}
use Rattle.mxf_sets.proofs.local_set.Items.first.Given as goal

abbrev pub invariant-loop-item : goal.invariant-loop-item
invariant-loop-item l = value_of l.tag l.item-iterator ≡ value_of l.tag l.self
