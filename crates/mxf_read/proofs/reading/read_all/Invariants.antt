-- The bytes taken so far were fed, and each read either takes one of the `limit` bytes or is one of the repeated ones.
use Rattle.mxf_views.proofs.Common.{◌≡◌, ◌+◌, ◌-◌, ◌≤◌, List, ℕ, length, Consumes}
use Rattle.mxf_read.specs.Feeding.{Feeds}
use Rattle.mxf_read.proofs.reading.read_all.Given as goal

abbrev pub invariant-reads : goal.invariant-reads
invariant-reads g l = (taken : List ℕ) × (length taken + l.left ≡ l.initial.left)
    × Consumes (g.R.Read.remaining l.initial.from) (g.R.Read.remaining l.from) taken
    × Feeds l.initial.piece l.piece taken × (l.interruptions ≤ 1024) × (l.initial.ticks.count ≤ l.ticks.count)
    × (l.ticks.count + l.left + (1024 - l.interruptions) ≤ l.initial.ticks.count + l.initial.left + 1024)

abbrev pub decreases-reads : goal.decreases-reads
decreases-reads g l = l.left + (1024 - l.interruptions)
