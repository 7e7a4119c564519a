-- The bytes taken so far were fed, and each step either takes some or is one of the repeated ones.
use Rattle.mxf_views.proofs.Common.{◌≡◌, ◌+◌, ◌-◌, ◌<◌, ◌≤◌, List, ℕ, length, Consumes}
use Rattle.mxf_read.specs.Feeding.{Feeds}
use Rattle.mxf_read.proofs.reading.read_through.Given as goal

abbrev pub invariant-steps : goal.invariant-steps
invariant-steps g l = (taken : List ℕ) × (length taken + l.left ≡ l.initial.left)
    × Consumes (g.R.Read.remaining l.initial.from) (g.R.Read.remaining l.from) taken
    × Feeds l.initial.piece l.piece taken × (l.interruptions ≤ 1024) × (0 < l.room) × (l.room ≤ length l.window.items)

abbrev pub decreases-steps : goal.decreases-steps
decreases-steps g l = l.left + (1024 - l.interruptions)
