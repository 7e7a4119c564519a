use Rattle.mxf_views.proofs.Common.{◌≡◌, arith, ap, refl, flat_map, err_from_is_err_and, clear_notes}
use Rattle.mxf_lines.specs.ItemLines.{set_lines}
use Rattle.mxf_lines.proofs.PrintLaws.{leads_first, leads_more, leads_failed, leads_end}
use Rattle.mxf_lines.proofs.printing.sets.SetLinesLines.print_to.Goals as goal

pub each-init : goal.each-init
each-init g c =
    let content = c.args.self.0.now in
    let notes : c.into_iter-note-iterator.result ≡ clear_notes content = grind arith in
    (leads_first (ap (flat_map (set_lines content)) notes), λ _. refl)

pub each-preserved : goal.each-preserved
each-preserved g c =
    let steps = ap (flat_map (set_lines c.args.self.0.now)) c.in-Some.ensures.steps in
    let printed = c.in_ok-print_set.ensures in
    (leads_more _ _ steps c.each.invariant.0 printed.lines printed.form, printed.labels)

pub returns-in_err-print_set-clause-lines : goal.returns-in_err-print_set-clause-lines
returns-in_err-print_set-clause-lines g c =
    let steps = ap (flat_map (set_lines c.args.self.0.now)) c.in-Some.ensures.steps in
    let p = err_from_is_err_and c.from_residual.result c.from_residual.ensures.1 in
    rw (p.1, p.2) (leads_failed (g.W.Write.contents c.print_set.new.writer) c.print_set.new.printer.progress.written
    c.in_err-print_set.field-0.0 _ _ steps c.each.invariant.0 c.in_err-print_set.ensures.lines)

pub returns-clause-lines : goal.returns-clause-lines
returns-clause-lines g c =
    let none = ap (flat_map (set_lines c.args.self.0.now)) c.in-None.ensures.steps.0 in
    leads_end none c.each.printer.in_range c.each.invariant.0
