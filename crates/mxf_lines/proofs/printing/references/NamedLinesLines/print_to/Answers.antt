use Rattle.mxf_views.proofs.Common.{◌≡◌, ◌∙◌, ◌==◌, ap, false, flat_map, length, rules, sym, nil_from_length}
use Rattle.mxf_views.proofs.Common.{err_from_is_err_and}
use Rattle.mxf_lines.specs.ReferenceLines.{lines_of_reference}
use Rattle.mxf_lines.proofs.PrintLaws.{leads_more, leads_failed, leads_end}
use Rattle.mxf_lines.proofs.RecordLaws.{lines_of_some}
use Rattle.mxf_lines.proofs.printing.references.NamedLinesLines.print_to.Goals as goal

pub each-preserved : goal.each-preserved
each-preserved g c =
    let lines = lines_of_reference c.args.self.catalogue.now c.args.self.named in
    let printed = c.in_ok-print_reference.ensures in
    let steps = ap (flat_map lines) c.in-Some.ensures.cases.0 in
    leads_more (lines c.in-Some.reference.now) _ steps c.each.invariant printed.lines printed.form

pub returns-in_err-print_reference-clause-lines : goal.returns-in_err-print_reference-clause-lines
returns-in_err-print_reference-clause-lines g c =
    let lines = lines_of_reference c.args.self.catalogue.now c.args.self.named in
    let new = c.print_reference.new in
    let steps = ap (flat_map lines) c.in-Some.ensures.cases.0 in
    let p = err_from_is_err_and c.from_residual-in_err-print_reference.result
    c.from_residual-in_err-print_reference.ensures.1 in
    rw (p.1, p.2) (leads_failed (g.W.Write.contents new.writer) new.printer.progress.written
    c.in_err-print_reference.field-0.0 (lines c.in-Some.reference.now) _ steps c.each.invariant
    c.in_err-print_reference.ensures.lines)

pub returns-clause-lines : goal.returns-clause-lines
returns-clause-lines g c =
    let lines = flat_map (lines_of_reference c.args.self.catalogue.now c.args.self.named) in
    leads_end (ap lines (nil_from_length _ c.in_default.ensures.cases)) c.each.printer.in_range c.each.invariant

pub returns-in_err-records-clause-lines : goal.returns-in_err-records-clause-lines
returns-in_err-records-clause-lines g c =
    let references = c.args.self.references.now in
    let there : (length references == 0) ≡ false = sym c.is_empty.ensures ∙ c.if-is_empty.false in
    let some = lines_of_some c.args.self.catalogue.now c.args.self.named references there in
    let p = err_from_is_err_and c.from_residual.result c.from_residual.ensures.1 in
    rw (p.1, p.2) (0, some, search rules)
