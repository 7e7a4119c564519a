use Rattle.mxf_klv.proofs.Common.{arith, length-append, IfOk-weaker}
use Rattle.mxf_catalogue.specs.CatalogueFile.{BeginsWithNote}
use Rattle.mxf_catalogue.specs.FileReading.{NoteBehindMark}
use Rattle.mxf_catalogue.proofs.FileBytes.{length-fixed_bytes}
use Rattle.mxf_catalogue.proofs.FileParts.{note_begins}
use Rattle.mxf_catalogue.proofs.catalogue.file.entry.read_note.Goals as goal

pub returns-in_default-split_mark-clause-fault : goal.returns-in_default-split_mark-clause-fault
returns-in_default-split_mark-clause-fault c = grind (arith, length-append, length-fixed_bytes)

pub returns-clause-note : goal.returns-clause-note
returns-clause-note c =
    let v = c.args.version in
    let fixed = c.in-Some in
    let mark = c.in-Some-split_mark in
    IfOk-weaker c.read_held.result (λ s. NoteBehindMark fixed.fixed mark.mark mark.rest.now s.0 s.1.now)
    (λ s. BeginsWithNote v c.args.bytes.now s.0 s.1.now) (λ s h.
    note_begins v fixed.fixed mark.mark c.args.bytes.now fixed.behind.now mark.rest.now s.1.now s.0 fixed.ensures.some
    mark.ensures.some h) c.read_held.ensures.note
