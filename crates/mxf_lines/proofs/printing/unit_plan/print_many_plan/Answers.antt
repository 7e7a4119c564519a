use Rattle.mxf_views.proofs.Common.{◌≡◌, ◌<◌, ℕ, IfOk, arith, length, length-append, rules, subst, err_from_is_err_and}
use Rattle.mxf_views.proofs.Common.{Writes}
use Rattle.mxf_partial.proofs.UnitPlanLaws.{one_plan}
use Rattle.mxf_partial.specs.Orders.{IsUnitPlan, UnitPlanParts}
use Rattle.mxf_partial.specs.Wanted.{WantedParts}
use Rattle.mxf_lines.specs.Printing.{Prints}
use Rattle.mxf_lines.specs.UnitPlanLines.{many_plan_lines, many_plan_status}
use Rattle.mxf_lines.proofs.printing.unit_plan.print_many_plan.Goals as goal

pub returns-in_err-plan-clause-lines : goal.returns-in_err-plan-clause-lines
returns-in_err-plan-clause-lines g c = λ p is.
    let lines = many_plan_lines c.args.many.now p in
    let some : 0 < length lines = simp length-append (omega arith) in
    let e = err_from_is_err_and c.from_residual.result c.from_residual.ensures.1 in
    rw (e.1, e.2) (0, some, search rules)

pub returns-clause-lines : goal.returns-clause-lines
returns-clause-lines g c = λ p is.
    let plan = subst (λ (v : WantedParts). IsUnitPlan v c.in_ok-plan.plan) c.wanted.ensures c.in_ok-plan.ensures in
    subst (λ (k : UnitPlanParts). Prints c.args.form (Writes {X = Unit {0}} (g.W.Write.contents c.args.writer.now)
    (g.W.Write.contents c.print_many.new.writer)) c.print_many.result (many_plan_lines c.args.many.now k))
    (one_plan c.args.many.now.wanted c.in_ok-plan.plan p plan is) c.print_many.ensures.lines

pub returns-clause-status : goal.returns-clause-status
returns-clause-status g c = λ p is.
    let plan = subst (λ (v : WantedParts). IsUnitPlan v c.in_ok-plan.plan) c.wanted.ensures c.in_ok-plan.ensures in
    subst (λ (k : UnitPlanParts). IfOk c.print_many.result (λ (s : ℕ). s ≡ many_plan_status c.args.many.now k))
    (one_plan c.args.many.now.wanted c.in_ok-plan.plan p plan is) c.print_many.ensures.status
