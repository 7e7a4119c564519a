use Rattle.mxf_views.proofs.Common.{◌<◌, arith, length, length-append, refl, rules, subst, err_from_is_err_and, Puts}
use Rattle.mxf_lines.specs.Printing.{Prints, content_lines}
use Rattle.mxf_lines.proofs.printing.content.ShownContentLines.print_to.Goals as goal

pub returns-clause-lines : goal.returns-clause-lines
returns-clause-lines g c =
    subst (Prints c.args.printer.now.fields.form (Puts {X = Unit {0}} g.W.Write.contents c.args.writer.now
    c.print_to.new.writer c.args.printer.now.progress c.print_to.new.printer.progress) c.print_to.result)
    (simp (
      c.of.ensures,
      c.gaps.ensures.gaps,
      c.partitions.ensures.partitions,
      c.chain.ensures,
      c.copies.ensures.copies,
      c.preferred.ensures,
      c.catalogue-catalogue.ensures,
      c.in_ok-resolved.ensures,
      c.segments.ensures.segments,
      c.rip.ensures,
    ) refl) c.print_to.ensures.lines

pub returns-in_err-resolved-clause-lines : goal.returns-in_err-resolved-clause-lines
returns-in_err-resolved-clause-lines g c =
    let lines = content_lines c.args.self.scan c.args.self.views.now in
    let some : 0 < length lines = simp length-append (omega arith) in
    let p = err_from_is_err_and c.from_residual.result c.from_residual.ensures.1 in
    rw (p.1, p.2) (0, some, search rules)
