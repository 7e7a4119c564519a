use Rattle.mxf_views.proofs.Common.{◌<◌, arith, length, length-append, rules, subst, err_from_is_err_and}
use Rattle.mxf_views.proofs.Common.{List, Writes}
use Rattle.mxf_units.specs.Ranges.{units_from}
use Rattle.mxf_forms.specs.Forms.{PrintedLine}
use Rattle.mxf_lines.specs.Printing.{Prints}
use Rattle.mxf_lines.specs.UnitLines.{unit_lines}
use Rattle.mxf_lines.proofs.ShownLineLaws.{same_lines}
use Rattle.mxf_lines.proofs.printing.units.print_edit_units.Goals as goal

pub returns-in_err-shown-clause-lines : goal.returns-in_err-shown-clause-lines
returns-in_err-shown-clause-lines g c = λ s told.
    let first = c.args.range.first in
    let lines = unit_lines s first (units_from c.args.units.now first c.args.range.count) in
    let some : 0 < length lines = simp length-append (omega arith) in
    let e = err_from_is_err_and c.from_residual.result c.from_residual.ensures.1 in
    rw (e.1, e.2) (0, some, search rules)

pub returns-clause-lines : goal.returns-clause-lines
returns-clause-lines g c = λ s told.
    let u = c.args.units.now in
    let first = c.args.range.first in
    let count = c.args.range.count in
    let own = c.in_ok-shown.shown in
    subst (λ (lines : List PrintedLine). Prints c.args.form
    (Writes {X = Unit {0}} (g.W.Write.contents c.args.writer.now) (g.W.Write.contents c.print_shown.new.writer))
    c.print_shown.result lines)
    (same_lines u first count c.args.clocks.now own s c.in_ok-shown.ensures told first (units_from u first count))
    c.print_shown.ensures.lines
