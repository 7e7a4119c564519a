use Rattle.std.proofs.Common.{◌∙◌, arith, sym}
use Rattle.mxf_verify.specs.Fixities.{is_verified}
use Rattle.mxf_verify.specs.declared.verified_units.UnitRun.{UnitRun}
use Rattle.mxf_verify.proofs.UnitRunLaws.{chosen-more, no_run, run_order, units-fewer}
use Rattle.mxf_verify.proofs.verified_units.verified_in.Goals as goal

pub overflow_add-units : goal.overflow_add-units
overflow_add-units c =
    let p = λ (r : UnitRun). is_verified r.fixity in
    let more = chosen-more p c.args.runs.now c.loop-run.run-index no_run c.loop-run-test.true
    (sym c.is_verified.ensures ∙ c.if-is_verified.true) in
    omega (arith, more, c.requires.bound, c.loop-run.invariant, units-fewer p c.args.runs.now)

pub overflow_add-units-then-is_verified : goal.overflow_add-units-then-is_verified
overflow_add-units-then-is_verified c =
    let p = λ (r : UnitRun). is_verified r.fixity in
    let more = chosen-more p c.args.runs.now c.loop-run.run-index no_run c.loop-run-test.true
    (sym c.is_verified.ensures ∙ c.if-is_verified.true) in
    let order = run_order c.args.runs.now c.loop-run.run-index no_run c.requires c.loop-run-test.true in
    omega (arith, more, order, c.requires.bound, c.loop-run.invariant, units-fewer p c.args.runs.now)
