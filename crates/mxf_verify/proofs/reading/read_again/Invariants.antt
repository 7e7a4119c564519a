use Rattle.std.proofs.Common.{[]}
use Rattle.std.specs.Io.KnownBytes.{Consumes}
use Rattle.mxf_verify.proofs.reading.read_again.Given as goal

abbrev pub invariant-reads : goal.invariant-reads
invariant-reads g l = Consumes (g.R.Read.remaining l.initial.from) (g.R.Read.remaining l.from) []

abbrev pub decreases-reads : goal.decreases-reads
decreases-reads g l = l.repeats
