-- The runs so far, with those that are to come.
use Rattle.std.proofs.Common.{◌≡◌, ◌++◌}
use Rattle.mxf_verify.proofs.seen.put_runs.Given as goal

abbrev pub invariant-loop-run : goal.invariant-loop-run
invariant-loop-run l = l.runs.items ++ l.run-iterator ≡ l.initial.runs.items ++ l.cover
