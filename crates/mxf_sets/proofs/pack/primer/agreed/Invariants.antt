use Rattle.std.proofs.Common.{◌≡◌, ◌∷◌}
use Rattle.mxf_sets.specs.PackReadings.{agreed}
use Rattle.mxf_sets.proofs.pack.primer.agreed.Given as goal

abbrev pub invariant-loop-other : goal.invariant-loop-other
invariant-loop-other l = agreed (l.first ∷ l.other-iterator) ≡ agreed (l.first ∷ l.initial.other-iterator)
