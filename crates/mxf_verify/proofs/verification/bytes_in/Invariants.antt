-- The bytes so far, with those of the runs that are to come.
use Rattle.mxf_views.proofs.Common.{◌≡◌, ◌+◌, AllByRecursion, IsRun}
use Rattle.mxf_places.specs.Held.{bytes_of}
use Rattle.mxf_verify.proofs.verification.bytes_in.Given as goal

abbrev pub invariant-loop-run : goal.invariant-loop-run
invariant-loop-run l = (l.bytes + bytes_of l.run-iterator ≡ bytes_of l.cover) × AllByRecursion IsRun l.run-iterator
