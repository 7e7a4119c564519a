-- What is answered of the lines to come is answered of all lines.
use Rattle.std.proofs.Common.{flat_map, length}
use Rattle.mxf_lines.specs.ReferenceLines.{lines_of_reference}
use Rattle.mxf_lines.proofs.PrintLaws.{Leads}
use Rattle.mxf_lines.proofs.printing.references.NamedLinesLines.print_to.Given as goal

abbrev pub invariant-each : goal.invariant-each
invariant-each g l =
    let content = l.fn.self.catalogue.now in
    let lines = flat_map (lines_of_reference content l.fn.self.named) in
    Leads l.initial.printer.fields.form (g.W.Write.contents l.initial.writer) l.initial.printer.progress.written
    (lines l.fn.self.references.now) l.printer.fields.form (g.W.Write.contents l.writer) l.printer.progress.written
    (lines l.left)

abbrev pub decreases-each : goal.decreases-each
decreases-each g l = length l.left
