-- The spans so far, with those of the runs to come.
use Rattle.std.proofs.Common.{◌≡◌, ◌++◌, drop}
use Rattle.mxf_timed.specs.Spans.{spans_from}
use Rattle.mxf_timed.proofs.coverage.spans_of.Given as goal

abbrev pub invariant-loop-place : goal.invariant-loop-place
invariant-loop-place l =
    l.spans.items ++ spans_from l.place (drop l.place l.runs) ≡ spans_from 0 l.runs
