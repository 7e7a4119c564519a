use Rattle.std.proofs.Common.{◌≡◌, ◌∙◌, ◌==◌, ◌+◌, ◌++◌, ◌&&◌, ◌∷◌, [], ℕ, IfOk, count_by, flat_map, if◌then◌else◌}
use Rattle.std.proofs.Common.{is_none, length, subst, sum_by}
use Rattle.mxf_klv.specs.Written.{Puts}
use Rattle.mxf_restore.specs.declared.disputes.Disputes.{Disputes}
use Rattle.mxf_restore.specs.declared.plan.Order.{Order}
use Rattle.mxf_lines.specs.Lines.{lines_where}
use Rattle.mxf_lines.specs.PlanLines.{disputes_line, ordered_bytes, planned_line, restore_line}
use Rattle.mxf_lines.specs.Printing.{Prints}
use Rattle.mxf_lines.specs.UnitLines.{units_line}
use Rattle.mxf_lines.specs.UnitPlanLines.{told_plan_lines}
use Rattle.mxf_lines.proofs.printing.unit_plan.print_plan_lines.Goals as goal

pub returns-clause-lines : goal.returns-clause-lines
returns-clause-lines g c =
    let last = c.args.told.last in
    let orders = c.orders-orders.ensures in
    let end = c.end-end.ensures in
    let same : flat_map (λ (o : Order). restore_line o ∷ []) c.orders-orders.result.now
    ++ (lines_where (λ (d : Disputes). disputes_line d ∷ []) c.args.told.disputes
    ++ (planned_line (length c.orders-orders.result.now) (sum_by ordered_bytes c.orders-orders.result.now)
    (count_by (λ (o : Order). is_none o.end) c.orders-orders.result.now) c.end-end.result
    ∷ units_line last.units last.held last.hand last.from ∷ []))
    ≡ told_plan_lines c.args.told.disputes (units_line last.units last.held last.hand last.from) c.args.plan.now = λ i.
    flat_map (λ (o : Order). restore_line o ∷ []) (orders i)
    ++ (lines_where (λ (d : Disputes). disputes_line d ∷ []) c.args.told.disputes
    ++ (planned_line (length (orders i)) (sum_by ordered_bytes (orders i))
    (count_by (λ (o : Order). is_none o.end) (orders i)) (end i)
    ∷ units_line last.units last.held last.hand last.from ∷ [])) in
    subst (Prints c.args.printer.now.fields.form (Puts {X = Unit {0}} g.W.Write.contents c.args.writer.now
    c.print_with_status.new.writer c.args.printer.now.progress c.print_with_status.new.printer.progress)
    c.print_with_status.result) same c.print_with_status.ensures.lines

pub returns-clause-status : goal.returns-clause-status
returns-clause-status g c =
    let last = c.args.told.last in
    let orders = c.orders-orders.ensures in
    let same : c.status_of-status.result ≡ (if length c.args.plan.now.orders == 0 && is_none c.args.told.disputes
    then (if last.held + last.hand == last.units then 0 else 1) else 1) = c.status_of-status.ensures
    ∙ (λ i. if length (orders i) == 0 && is_none c.args.told.disputes
    then (if last.held + last.hand == last.units then 0 else 1) else 1) in
    subst (λ (k : ℕ). IfOk c.print_with_status.result (λ (s : ℕ). s ≡ k)) same c.print_with_status.ensures.status
