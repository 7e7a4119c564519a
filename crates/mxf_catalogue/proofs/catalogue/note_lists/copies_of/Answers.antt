use Rattle.mxf_klv.proofs.Common.{◌∙◌, ◌++◌, List, ap, append-nil, sym, drop_all, NoteParts}
use Rattle.mxf_catalogue.proofs.catalogue.note_lists.copies_of.Goals as goal

pub returns : goal.returns
returns c =
    let copies = c.loop-note.copies.items in
    sym (append-nil copies) ∙ sym (ap (λ (l : List NoteParts). copies ++ l)
    (drop_all c.loop-note.note-index c.args.notes.now c.loop-note-test.false)) ∙ c.loop-note.invariant
