use Rattle.mxf_klv.proofs.Common.{sym, ◌∙◌, ap, subst, insert, note_total, note_cmp-IsAntisymmetric, In}
use Rattle.mxf_klv.proofs.RisingLemmas.{with_one_present}
use Rattle.mxf_catalogue.specs.Content.{IsContent}
use Rattle.mxf_catalogue.proofs.ContentLaws.{IsContent-with_note}
use Rattle.mxf_catalogue.proofs.catalogue.placing.put.Goals as goal

pub returns-in-Ok-clause-items : goal.returns-in-Ok-clause-items
returns-in-Ok-clause-items c =
    sym (with_one_present note_total note_cmp-IsAntisymmetric c.args.note c.args.notes.now.items c.requires.content
    (subst (In c.args.note) c.deref.ensures.value c.in-Ok.ensures.found))

pub returns-in-Ok-insert-clause-content : goal.returns-in-Ok-insert-clause-content
returns-in-Ok-insert-clause-content c =
    let notes = c.args.notes.now.items in
    let is = c.in-Ok-insert.ensures.items
    ∙ (ap (λ l. insert l c.in-Err.at c.args.note) (sym c.deref.ensures.value) ∙ c.in-Err.ensures.absent.inserted) in
    subst IsContent (sym is) (IsContent-with_note c.args.note c.deref.result.now
    (subst IsContent (sym c.deref.ensures.value) c.requires.content))
