use Rattle.std.proofs.Common.{◌≡◌, ◌∙◌, ◌==◌, ◌+◌, ◌&&◌, ℕ, List, IfOk, ap, if◌then◌else◌, is_none, length, subst}
use Rattle.mxf_klv.specs.Written.{Writes}
use Rattle.mxf_units.specs.Ranges.{needed_from}
use Rattle.mxf_units.specs.declared.unit.EditUnit.{EditUnit}
use Rattle.mxf_lines.specs.Printing.{Prints}
use Rattle.mxf_lines.specs.UnitLines.{hand_count, held_count, units_line}
use Rattle.mxf_lines.specs.UnitPlanLines.{told_plan_lines, unit_plan_lines, unit_plan_status}
use Rattle.mxf_lines.proofs.printing.unit_plan.print_planned.Goals as goal

pub returns-clause-lines : goal.returns-clause-lines
returns-clause-lines g c =
    let last = c.of-last.result in
    let counted = c.of-last.ensures in
    let units = c.told_units.ensures in
    let many = counted.units ∙ ap (λ (us : List EditUnit). length us) units in
    let held = counted.held ∙ ap held_count units in
    let hand = counted.hand ∙ ap hand_count units in
    let from = counted.from ∙ (λ i. needed_from (c.first.ensures i) (units i)) in
    let same : told_plan_lines c.told_disputes.result (units_line last.units last.held last.hand last.from)
    c.args.plan.now ≡ unit_plan_lines c.args.wanted.now c.args.plan.now = λ i.
    told_plan_lines (c.told_disputes.ensures i) (units_line (many i) (held i) (hand i) (from i)) c.args.plan.now in
    subst (Prints c.args.form (Writes {X = Unit {0}} (g.W.Write.contents c.args.writer.now)
    (g.W.Write.contents c.print_told.new.writer)) c.print_told.result) same c.print_told.ensures.lines

pub returns-clause-status : goal.returns-clause-status
returns-clause-status g c =
    let last = c.of-last.result in
    let counted = c.of-last.ensures in
    let units = c.told_units.ensures in
    let many = counted.units ∙ ap (λ (us : List EditUnit). length us) units in
    let held = counted.held ∙ ap held_count units in
    let hand = counted.hand ∙ ap hand_count units in
    let same : (if length c.args.plan.now.orders == 0 && is_none c.told_disputes.result
    then (if last.held + last.hand == last.units then 0 else 1) else 1)
    ≡ unit_plan_status c.args.wanted.now c.args.plan.now = λ i.
    if length c.args.plan.now.orders == 0 && is_none (c.told_disputes.ensures i)
    then (if held i + hand i == many i then 0 else 1) else 1 in
    subst (λ (k : ℕ). IfOk c.print_told.result (λ (s : ℕ). s ≡ k)) same c.print_told.ensures.status
