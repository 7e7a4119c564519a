-- The units so far, with those of the verified ones of the runs to come.
use Rattle.std.proofs.Common.{◌≡◌, ◌+◌, drop, filter}
use Rattle.mxf_verify.specs.Fixities.{is_verified, units_in}
use Rattle.mxf_verify.proofs.verified_units.verified_in.Given as goal

abbrev pub invariant-loop-run : goal.invariant-loop-run
invariant-loop-run l = l.units + units_in (filter (λ r. is_verified r.fixity) (drop l.run-index l.runs))
    ≡ units_in (filter (λ r. is_verified r.fixity) l.runs)
