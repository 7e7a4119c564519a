use Rattle.mxf_views.proofs.Common.{ℕ, ◌<◌}
use Rattle.std.specs.Int.{IsGcd}
use Rattle.mxf_clocks.proofs.fraction.greatest_divisor.Given as goal

abbrev pub invariant-loop-less : goal.invariant-loop-less
invariant-loop-less l = record {
  kept : (g : ℕ) → IsGcd l.greater l.less g → IsGcd l.fn.a l.fn.b g;
  some : 0 < l.greater;
}

abbrev pub decreases-loop-less : goal.decreases-loop-less
decreases-loop-less l = l.less
