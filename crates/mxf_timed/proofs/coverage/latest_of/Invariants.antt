-- What was told so far, with what is told of the spans to come.
use Rattle.std.proofs.Common.{◌≡◌, ◌++◌, drop}
use Rattle.mxf_timed.specs.Spans.{latest_from, no_latest}
use Rattle.mxf_timed.proofs.coverage.latest_of.Given as goal

abbrev pub invariant-loop-span : goal.invariant-loop-span
invariant-loop-span l =
    l.all.items ++ latest_from l.latest (drop l.span-index l.spans) ≡ latest_from no_latest l.spans
