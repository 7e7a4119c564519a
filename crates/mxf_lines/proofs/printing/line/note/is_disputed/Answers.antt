use Rattle.mxf_views.proofs.Common.{is_disputed-IsDisputed, is_disputed, same_bool}
use Rattle.mxf_lines.proofs.printing.line.note.is_disputed.Goals as goal

pub returns : goal.returns
returns c =
    let n = c.args.note.now in
    let notes = c.args.catalogue.now in
    let told = is_disputed-IsDisputed n notes in
    same_bool c.disputes.result (is_disputed n notes) (λ t. told.1 (c.disputes.ensures.0 t).1)
    (λ t. c.disputes.ensures.1 (c.requires, told.0 t))
