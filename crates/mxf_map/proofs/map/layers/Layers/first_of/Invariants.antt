-- None of the marks so far says something true.
use Rattle.std.proofs.Common.{◌<◌}
use Rattle.mxf_map.specs.Map.{Says, rank}
use Rattle.mxf_map.specs.declared.map.Mark.{Mark}
use Rattle.mxf_map.proofs.map.layers.Layers.first_of.Given as goal

abbrev pub invariant-loop-mark : goal.invariant-loop-mark
invariant-loop-mark l = (other : Mark) → rank other < l.mark-index → ¬ Says l.self l.from l.to other
