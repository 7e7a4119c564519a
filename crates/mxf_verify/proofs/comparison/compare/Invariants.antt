use Rattle.std.proofs.Common.{◌≡◌, ◌++◌, map, take, drop}
use Rattle.mxf_verify.specs.Candidates.{compared}
use Rattle.mxf_verify.proofs.comparison.compare.Given as goal

abbrev pub invariant-loop-i : goal.invariant-loop-i
invariant-loop-i l = l.candidates.items ≡ map (compared l.at l.bytes) (take l.i l.fn.candidates.items)
    ++ drop l.i l.fn.candidates.items
