use Rattle.std.proofs.Common.{◌≡◌, ◌++◌, length}
use Rattle.mxf_sets.specs.Text.{text_units}
use Rattle.mxf_sets.proofs.texts.text_units.Given as goal

abbrev pub invariant-units : goal.invariant-units
invariant-units l = l.units.items ++ text_units l.rest ≡ text_units l.value

abbrev pub decreases-units : goal.decreases-units
decreases-units l = length l.rest
