-- The marks so far, with any marks of the cells that are to come, are those of all cells.
use Rattle.std.proofs.Common.{◌-◌, ◌++◌, List}
use Rattle.mxf_map.specs.Map.{AreMarks}
use Rattle.mxf_map.specs.declared.map.Mark.{Mark}
use Rattle.mxf_map.proofs.map.marks.Given as goal

abbrev pub invariant-loop-from : goal.invariant-loop-from
invariant-loop-from l = (rest : List Mark) → AreMarks l.layers l.size l.end l.from rest
    → AreMarks l.layers l.size l.end 0 (l.marks.items ++ rest)

abbrev pub decreases-loop-from : goal.decreases-loop-from
decreases-loop-from l = l.end - l.from
