use Rattle.std.proofs.lemmas.Result.{err_from_is_err_and}
use Rattle.mxf_lines.proofs.PrintLaws.{leads_more, leads_failed, leads_end}
use Rattle.mxf_lines.proofs.printing.lines.joined.EachLines.print_to.Goals as goal

pub loop-item-preserved : goal.loop-item-preserved
loop-item-preserved g c =
    let printed = c.in_ok-print_to.ensures in
    leads_more _ _ c.in-Some.ensures.1 c.loop-item.invariant printed.lines printed.form

pub returns-in_err-print_to-clause-lines : goal.returns-in_err-print_to-clause-lines
returns-in_err-print_to-clause-lines g c =
    let p = err_from_is_err_and c.from_residual.result c.from_residual.ensures.1 in
    rw (p.1, p.2) (leads_failed (g.W.Write.contents c.print_to.new.writer) c.print_to.new.printer.progress.written
    c.in_err-print_to.field-0.0 _ _ c.in-Some.ensures.1 c.loop-item.invariant c.in_err-print_to.ensures.lines)

pub returns-clause-lines : goal.returns-clause-lines
returns-clause-lines g c = leads_end c.in_default.ensures c.loop-item.printer.in_range c.loop-item.invariant
