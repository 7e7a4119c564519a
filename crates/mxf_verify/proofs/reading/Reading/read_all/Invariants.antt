use Rattle.mxf_views.proofs.Common.{◌+◌, ◌-◌, ◌≡◌, ◌<◌, ◌≤◌, List, ℕ, length, Consumes}
use Rattle.mxf_verify.specs.SourceReads.{Reads}
use Rattle.mxf_verify.proofs.reading.Reading.read_all.Given as goal

abbrev pub invariant-reads : goal.invariant-reads
invariant-reads g l = (more : List ℕ) × Consumes (g.R.Read.remaining l.initial.from) (g.R.Read.remaining l.from) more
    × Reads l.initial.self l.self more × (l.self.comparison.at ≡ l.initial.self.comparison.at + length more)
    × (l.self.comparison.at ≤ l.end) × (0 < length l.window.items)

abbrev pub decreases-reads : goal.decreases-reads
decreases-reads g l = l.end - l.self.comparison.at
