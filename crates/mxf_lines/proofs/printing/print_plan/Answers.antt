use Rattle.mxf_views.proofs.Common.{◌<◌, arith, length, length-append, rules, err_from_is_err_and}
use Rattle.mxf_restore.specs.Disputes.{disputes_of}
use Rattle.mxf_restore.specs.Plan.{plan_of}
use Rattle.mxf_lines.specs.PlanLines.{plan_lines}
use Rattle.mxf_lines.proofs.printing.print_plan.Goals as goal

pub returns-in_err-plan-clause-lines : goal.returns-in_err-plan-clause-lines
returns-in_err-plan-clause-lines g c =
    let lines = plan_lines (disputes_of c.args.views.now) (plan_of c.args.at_hand.now c.args.views.now) in
    let some : 0 < length lines = simp length-append (omega arith) in
    let p = err_from_is_err_and c.from_residual.result c.from_residual.ensures.1 in
    rw (p.1, p.2) (0, some, search rules)
