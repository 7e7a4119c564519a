use Rattle.std.proofs.lemmas.Result.{err_from_is_err_and}
use Rattle.mxf_lines.proofs.PrintLaws.{Prints-after, Prints-fault}
use Rattle.mxf_lines.proofs.printing.lines.joined.ThenLines.print_to.Goals as goal

pub returns-in_err-print_to-clause-lines : goal.returns-in_err-print_to-clause-lines
returns-in_err-print_to-clause-lines g c =
    let contents = g.W.Write.contents in
    let p = err_from_is_err_and c.from_residual.result c.from_residual.ensures.1 in
    rw (p.1, p.2) (Prints-fault (Unit {0}) (Unit {0}) c.args.printer.now.fields.form (contents c.args.writer.now)
    (contents c.print_to.new.writer) c.args.printer.now.progress.written c.print_to.new.printer.progress.written
    c.in_err-print_to.field-0.0 (g.A.Lines.lines c.args.self.0) (g.B.Lines.lines c.args.self.1)
    c.in_err-print_to.ensures.lines)

pub returns-clause-lines : goal.returns-clause-lines
returns-clause-lines g c =
    let contents = g.W.Write.contents in
    Prints-after {X = Unit {0}} c.args.printer.now.fields.form c.print_to.new.printer.fields.form
    (contents c.args.writer.now) (contents c.print_to.new.writer) (contents c.print_to-2.new.writer)
    c.args.printer.now.progress.written c.print_to.new.printer.progress.written c.print_to-2.new.printer.progress.written
    c.print_to-2.result (g.A.Lines.lines c.args.self.0) (g.B.Lines.lines c.args.self.1) c.in_ok-print_to.ensures.lines
    c.in_ok-print_to.ensures.form c.print_to-2.ensures.lines
