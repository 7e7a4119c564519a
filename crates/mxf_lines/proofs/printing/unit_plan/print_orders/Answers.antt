use Rattle.std.proofs.Common.{◌≡◌, ◌++◌, ◌∷◌, [], count_by, flat_map, is_none, length, subst, sum_by}
use Rattle.mxf_klv.specs.Written.{Puts}
use Rattle.mxf_restore.specs.declared.plan.Order.{Order}
use Rattle.mxf_lines.specs.PlanLines.{ordered_bytes, planned_line, restore_line}
use Rattle.mxf_lines.specs.Printing.{Prints}
use Rattle.mxf_lines.specs.UnitPlanLines.{order_lines}
use Rattle.mxf_lines.proofs.printing.unit_plan.print_orders.Goals as goal

pub returns-clause-lines : goal.returns-clause-lines
returns-clause-lines g c =
    let orders = c.orders-orders.ensures in
    let end = c.end-end.ensures in
    let same : flat_map (λ (o : Order). restore_line o ∷ []) c.orders-orders.result.now
    ++ planned_line (length c.orders-orders.result.now) (sum_by ordered_bytes c.orders-orders.result.now)
    (count_by (λ (o : Order). is_none o.end) c.orders-orders.result.now) c.end-end.result ∷ []
    ≡ order_lines c.args.plan.now = λ i. flat_map (λ (o : Order). restore_line o ∷ []) (orders i)
    ++ planned_line (length (orders i)) (sum_by ordered_bytes (orders i))
    (count_by (λ (o : Order). is_none o.end) (orders i)) (end i) ∷ [] in
    subst (Prints c.args.printer.now.fields.form (Puts {X = Unit {0}} g.W.Write.contents c.args.writer.now
    c.print_with_status.new.writer c.args.printer.now.progress c.print_with_status.new.printer.progress)
    c.print_with_status.result) same c.print_with_status.ensures.lines
