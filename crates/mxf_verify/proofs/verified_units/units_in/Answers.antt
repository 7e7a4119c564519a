use Rattle.std.proofs.Common.{arith}
use Rattle.mxf_verify.proofs.UnitRunLaws.{no_run, units-more}
use Rattle.mxf_verify.proofs.verified_units.units_in.Goals as goal

pub overflow_add-units : goal.overflow_add-units
overflow_add-units c =
    let more = units-more c.args.runs.now c.loop-run.run-index no_run c.loop-run-test.true in
    omega (arith, more, c.requires.bound, c.loop-run.invariant)
