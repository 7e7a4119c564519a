-- What is answered of the lines to come is answered of all lines.
use Rattle.mxf_lines.proofs.PrintLaws.{Leads}
use Rattle.mxf_lines.proofs.printing.lines.joined.EachLines.print_to.Given as goal

abbrev pub invariant-loop-item : goal.invariant-loop-item
invariant-loop-item g l =
    Leads l.initial.printer.fields.form (g.W.Write.contents l.initial.writer) l.initial.printer.progress.written
    (g.S.Series.lines_left l.fn.self.0) l.printer.fields.form (g.W.Write.contents l.writer) l.printer.progress.written
    (g.S.Series.lines_left l.series)

abbrev pub decreases-loop-item : goal.decreases-loop-item
decreases-loop-item g l = g.S.Series.left l.series
