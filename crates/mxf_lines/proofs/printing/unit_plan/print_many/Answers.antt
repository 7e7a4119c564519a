use Rattle.std.proofs.Common.{◌≡◌, ◌==◌, ◌+◌, ◌&&◌, ℕ, IfOk, if◌then◌else◌, is_none, length, subst}
use Rattle.mxf_klv.specs.Written.{Writes}
use Rattle.mxf_lines.specs.Printing.{Prints}
use Rattle.mxf_lines.specs.UnitLines.{units_line}
use Rattle.mxf_lines.specs.UnitPlanLines.{many_plan_lines, many_plan_status, told_plan_lines}
use Rattle.mxf_lines.proofs.printing.unit_plan.print_many.Goals as goal

pub returns-clause-lines : goal.returns-clause-lines
returns-clause-lines g c =
    let told = c.told_of_many.result in
    let last = c.told_of_many.ensures.last in
    let disputes = c.told_of_many.ensures.disputes in
    let same : told_plan_lines told.disputes (units_line told.last.units told.last.held told.last.hand told.last.from)
    c.args.plan.now ≡ many_plan_lines c.args.many.now c.args.plan.now = λ i.
    told_plan_lines (disputes i) (units_line (last i).units (last i).held (last i).hand (last i).from) c.args.plan.now in
    subst (Prints c.args.form (Writes {X = Unit {0}} (g.W.Write.contents c.args.writer.now)
    (g.W.Write.contents c.print_told.new.writer)) c.print_told.result) same c.print_told.ensures.lines

pub returns-clause-status : goal.returns-clause-status
returns-clause-status g c =
    let told = c.told_of_many.result in
    let last = c.told_of_many.ensures.last in
    let disputes = c.told_of_many.ensures.disputes in
    let same : (if length c.args.plan.now.orders == 0 && is_none told.disputes
    then (if told.last.held + told.last.hand == told.last.units then 0 else 1) else 1)
    ≡ many_plan_status c.args.many.now c.args.plan.now = λ i.
    if length c.args.plan.now.orders == 0 && is_none (disputes i)
    then (if (last i).held + (last i).hand == (last i).units then 0 else 1) else 1 in
    subst (λ (k : ℕ). IfOk c.print_told.result (λ (s : ℕ). s ≡ k)) same c.print_told.ensures.status
