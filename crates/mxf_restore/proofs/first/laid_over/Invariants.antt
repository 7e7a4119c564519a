use Rattle.std.proofs.Common.{◌≡◌, ◌++◌, None}
use Rattle.mxf_restore.specs.Steps.{overlay}
use Rattle.mxf_restore.proofs.first.laid_over.Given as goal

abbrev pub invariant-loop-step : goal.invariant-loop-step
invariant-loop-step l = l.steps.items ++ l.step-iterator ≡ overlay None l.fn.upper None l.fn.lower
