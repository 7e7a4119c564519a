-- The bytes so far were taken from the reader.
use Rattle.mxf_views.proofs.Common.{◌+◌, ◌-◌, ◌≤◌, length, Consumes}
use Rattle.mxf_read.proofs.gathering.reading.read_up_to.Given as goal

abbrev pub invariant-reads : goal.invariant-reads
invariant-reads g l = record {
  taken : Consumes (g.R.Read.remaining l.initial.from) (g.R.Read.remaining l.from) l.bytes.items;
  within : length l.bytes.items ≤ l.limit;
  repeats : l.interruptions ≤ 1024;
}

abbrev pub decreases-reads : goal.decreases-reads
decreases-reads g l = (l.limit - length l.bytes.items) + (1024 - l.interruptions)
