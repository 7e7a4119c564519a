use Rattle.mxf_klv.proofs.Common.{◌++◌, ◌∷◌, ◌∙◌, [], List, ap, append-nil, append_assoc, arith, sym}
use Rattle.mxf_klv.proofs.Common.{err_from_is_err_and, NoteParts}
use Rattle.std.proofs.KnownBytes.{Appends-nil}
use Rattle.mxf_catalogue.proofs.FileParts.{fails_in_note, note_written}
use Rattle.mxf_catalogue.proofs.catalogue.file.put_notes.Goals as goal

pub notes-init : goal.notes-init
notes-init g c = grind (arith, Appends-nil)

pub notes-preserved : goal.notes-preserved
notes-preserved g c =
    let i = c.notes.invariant in
    let n = c.in-Some.note.now in
    let next = ap (λ (l : List NoteParts). i.0 ++ l) (sym c.in-Some.ensures.steps) ∙ i.1 in
    let w = note_written _ _ _ _ _ _ i.0 n i.2 i.3 c.in_ok-put_note.ensures.0 c.in_ok-put_note.ensures.1 in
    (i.0 ++ n ∷ [], append_assoc i.0 (n ∷ []) c.next.new.self ∙ next, w.0, w.1)

pub returns-in_err-put_note : goal.returns-in_err-put_note
returns-in_err-put_note g c =
    let p = err_from_is_err_and c.from_residual.result c.from_residual.ensures.1 in
    let i = c.notes.invariant in
    let next = ap (λ (l : List NoteParts). i.0 ++ l) (sym c.in-Some.ensures.steps) ∙ i.1 in
    rw (p.1, p.2)
    (fails_in_note _ _ _ _ _ _ _ _ i.0 c.next.new.self c.in-Some.note.now next i.2 i.3 c.in_err-put_note.ensures)

pub returns : goal.returns
returns g c = grind (arith, append-nil)
