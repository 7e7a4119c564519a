use Rattle.std.proofs.Common.{sym, subst}
use Rattle.mxf_catalogue.specs.FileReading.{NoteBehindMark}
use Rattle.mxf_catalogue.proofs.catalogue.file.entry.read_held.Goals as goal

pub returns-then-mark-eq-HEAD-clause-note : goal.returns-then-mark-eq-HEAD-clause-note
returns-then-mark-eq-HEAD-clause-note c =
    subst (λ m. NoteBehindMark c.args.fixed m c.args.bytes.now c.note_of_head.result c.args.bytes.now)
    (sym c.if-mark-eq-HEAD.true) (c.note_of_head.ensures c.args.bytes.now)
