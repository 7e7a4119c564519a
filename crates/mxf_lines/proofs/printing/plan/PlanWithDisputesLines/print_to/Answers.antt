use Rattle.mxf_views.proofs.Common.{refl, subst, Puts}
use Rattle.mxf_lines.specs.Printing.{Prints}
use Rattle.mxf_lines.proofs.printing.plan.PlanWithDisputesLines.print_to.Goals as goal

pub returns-clause-lines : goal.returns-clause-lines
returns-clause-lines g c =
    subst (Prints c.args.printer.now.fields.form (Puts {X = Unit {0}} g.W.Write.contents c.args.writer.now
    c.print_to.new.writer c.args.printer.now.progress c.print_to.new.printer.progress) c.print_to.result)
    (simp (c.orders-orders.ensures, c.end-end.ensures, c.disputed_places.ensures) refl) c.print_to.ensures.lines
