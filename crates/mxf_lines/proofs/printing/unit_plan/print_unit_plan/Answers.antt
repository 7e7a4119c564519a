use Rattle.mxf_views.proofs.Common.{◌≡◌, ◌<◌, ℕ, IfOk, arith, length, length-append, rules, subst, err_from_is_err_and}
use Rattle.mxf_views.proofs.Common.{Writes, refl, sym}
use Rattle.mxf_partial.proofs.UnitPlanLaws.{one_plan}
use Rattle.mxf_partial.specs.Orders.{IsUnitPlan}
use Rattle.mxf_partial.specs.Wanted.{WantedParts, wanted_in}
use Rattle.mxf_lines.specs.Printing.{Prints}
use Rattle.mxf_lines.specs.UnitPlanLines.{unit_plan_lines, unit_plan_status, wanted_of}
use Rattle.mxf_lines.proofs.printing.unit_plan.print_unit_plan.Goals as goal

pub returns-in_err-wanted-clause-lines : goal.returns-in_err-wanted-clause-lines
returns-in_err-wanted-clause-lines g c = λ p is.
    let lines = unit_plan_lines (wanted_of c.args.units.now c.args.range) p in
    let some : 0 < length lines = simp length-append (omega arith) in
    let e = err_from_is_err_and c.from_residual.result c.from_residual.ensures.1 in
    rw (e.1, e.2) (0, some, search rules)

pub returns-in_err-plan-clause-lines : goal.returns-in_err-plan-clause-lines
returns-in_err-plan-clause-lines g c = λ p is.
    let lines = unit_plan_lines (wanted_of c.args.units.now c.args.range) p in
    let some : 0 < length lines = simp length-append (omega arith) in
    let e = err_from_is_err_and c.from_residual-in_err-plan.result c.from_residual-in_err-plan.ensures.1 in
    rw (e.1, e.2) (0, some, search rules)

pub print_planned-requires : goal.print_planned-requires
print_planned-requires g c = subst (λ (w : WantedParts). w ≡ wanted_in w.units w.first w.count)
    (sym c.in_ok-wanted.ensures) refl

pub returns-clause-lines : goal.returns-clause-lines
returns-clause-lines g c = λ p is.
    let wanted = c.in_ok-wanted.ensures in
    let plan = c.in_ok-plan.plan in
    let w = wanted_of c.args.units.now c.args.range in
    let own = subst (λ (v : WantedParts). IsUnitPlan v plan) wanted c.in_ok-plan.ensures in
    let same : unit_plan_lines c.in_ok-wanted.wanted plan ≡ unit_plan_lines w p = λ i.
    unit_plan_lines (wanted i) (one_plan w plan p own is i) in
    subst (Prints c.args.form (Writes {X = Unit {0}} (g.W.Write.contents c.args.writer.now)
    (g.W.Write.contents c.print_planned.new.writer)) c.print_planned.result) same c.print_planned.ensures.lines

pub returns-clause-status : goal.returns-clause-status
returns-clause-status g c = λ p is.
    let wanted = c.in_ok-wanted.ensures in
    let plan = c.in_ok-plan.plan in
    let w = wanted_of c.args.units.now c.args.range in
    let own = subst (λ (v : WantedParts). IsUnitPlan v plan) wanted c.in_ok-plan.ensures in
    let same : unit_plan_status c.in_ok-wanted.wanted plan ≡ unit_plan_status w p = λ i.
    unit_plan_status (wanted i) (one_plan w plan p own is i) in
    subst (λ (k : ℕ). IfOk c.print_planned.result (λ (s : ℕ). s ≡ k)) same c.print_planned.ensures.status
