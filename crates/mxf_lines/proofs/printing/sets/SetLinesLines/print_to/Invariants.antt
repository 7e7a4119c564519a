-- What is answered of the lines to come is answered of all lines, and the labels are those of their copy.
use Rattle.mxf_views.proofs.Common.{flat_map, clear_notes}
use Rattle.mxf_lines.specs.ItemLines.{AreLabelsIn, set_lines}
use Rattle.mxf_lines.proofs.PrintLaws.{Leads}
use Rattle.mxf_lines.proofs.printing.sets.SetLinesLines.print_to.Given as goal

abbrev pub invariant-each : goal.invariant-each
invariant-each g l =
    let content = l.fn.self.0.now in
    Leads l.initial.printer.fields.form (g.W.Write.contents l.initial.writer) l.initial.printer.progress.written
    (flat_map (set_lines content) (clear_notes content)) l.printer.fields.form (g.W.Write.contents l.writer)
    l.printer.progress.written (flat_map (set_lines content) l.note-iterator) × AreLabelsIn content l.labels
