use Rattle.mxf_views.proofs.Common.{◌<◌, arith, length, rules, err_from_is_err_and}
use Rattle.mxf_lines.specs.DescriptionLines.{description_lines}
use Rattle.mxf_lines.proofs.printing.description.print_description.Goals as goal

pub returns-in_err-tracks-clause-lines : goal.returns-in_err-tracks-clause-lines
returns-in_err-tracks-clause-lines g c =
    let some : 0 < length (description_lines c.args.views.now) = omega arith in
    let e = err_from_is_err_and c.from_residual-in_err-tracks.result c.from_residual-in_err-tracks.ensures.1 in
    rw (e.1, e.2) (0, some, search rules)

pub returns-in_err-clocks-clause-lines : goal.returns-in_err-clocks-clause-lines
returns-in_err-clocks-clause-lines g c =
    let some : 0 < length (description_lines c.args.views.now) = omega arith in
    let e = err_from_is_err_and c.from_residual-in_err-clocks.result c.from_residual-in_err-clocks.ensures.1 in
    rw (e.1, e.2) (0, some, search rules)
