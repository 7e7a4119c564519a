use Rattle.mxf_views.proofs.Common.{◌<◌, arith, length, length-append, rules, err_from_is_err_and}
use Rattle.mxf_lines.specs.Answering.{doubted_lines}
use Rattle.mxf_lines.proofs.printing.doubted.print_doubted.Goals as goal

pub returns-in_err-findings-clause-lines : goal.returns-in_err-findings-clause-lines
returns-in_err-findings-clause-lines g c =
    let lines = doubted_lines c.args.gathered.now.reports c.args.gathered.now.views in
    let some : 0 < length lines = simp length-append (omega arith) in
    let p = err_from_is_err_and c.from_residual.result c.from_residual.ensures.1 in
    rw (p.1, p.2) (0, some, search rules)

pub returns-in_err-doubts-clause-lines : goal.returns-in_err-doubts-clause-lines
returns-in_err-doubts-clause-lines g c =
    let lines = doubted_lines c.args.gathered.now.reports c.args.gathered.now.views in
    let some : 0 < length lines = simp length-append (omega arith) in
    let p = err_from_is_err_and c.from_residual-in_err-doubts.result c.from_residual-in_err-doubts.ensures.1 in
    rw (p.1, p.2) (0, some, search rules)
