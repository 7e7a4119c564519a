use Rattle.mxf_klv.proofs.CutHeads.{cut_by, heads_at-none, heads_at-whole}
use Rattle.mxf_klv.proofs.piece.cut_head.Goals as goal

pub returns-in_default-clause-none : goal.returns-in_default-clause-none
returns-in_default-clause-none c = heads_at-none c.args.offset c.args.bytes.now c.in_default.ensures.1

pub returns-in-Some-clause-none : goal.returns-in-Some-clause-none
returns-in-Some-clause-none c =
    let head = c.in-Ok.head in
    heads_at-whole c.args.offset c.args.bytes.now head.key head.after.now head.ber c.in-Ok.ensures c.in-Some.ensures.0

pub returns-in-None-clause-some : goal.returns-in-None-clause-some
returns-in-None-clause-some c =
    let head = c.in-Ok.head in
    (cut_by c.args.offset c.args.bytes.now head.key head.after.now head.ber c.note.result c.in-Ok.ensures
    c.in-None.ensures c.note.ensures).some

pub returns-in-None-clause-none : goal.returns-in-None-clause-none
returns-in-None-clause-none c =
    let head = c.in-Ok.head in
    (cut_by c.args.offset c.args.bytes.now head.key head.after.now head.ber c.note.result c.in-Ok.ensures
    c.in-None.ensures c.note.ensures).none
