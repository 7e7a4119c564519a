-- What is gone from `rest` was appended, and is counted.
use Rattle.mxf_klv.proofs.Common.{◌≤◌, ◌≡◌, ◌+◌, ◌-◌, List, ℕ, ◌++◌, length, Appends, counted}
use Rattle.mxf_klv.proofs.writing.progress.Progress.put.Given as goal

abbrev pub invariant-loop-rest : goal.invariant-loop-rest
invariant-loop-rest g l =
    (done : List ℕ) × (l.initial.rest ≡ done ++ l.rest) × Appends (g.W.Write.contents l.initial.writer)
    (g.W.Write.contents l.writer) done × (l.self.written ≡ counted (l.initial.self.written + length done)) ×
    (l.initial.self.interruptions ≤ l.self.interruptions)

abbrev pub decreases-loop-rest : goal.decreases-loop-rest
decreases-loop-rest g l = length l.rest + (1024 - l.self.interruptions)
