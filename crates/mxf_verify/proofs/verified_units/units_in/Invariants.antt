-- The units so far, with those of the runs to come.
use Rattle.std.proofs.Common.{◌≡◌, ◌+◌, drop}
use Rattle.mxf_verify.specs.Fixities.{units_in}
use Rattle.mxf_verify.proofs.verified_units.units_in.Given as goal

abbrev pub invariant-loop-run : goal.invariant-loop-run
invariant-loop-run l = l.units + units_in (drop l.run-index l.runs) ≡ units_in l.runs
