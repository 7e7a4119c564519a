use Rattle.mxf_views.proofs.Common.{◌∙◌, ap, filter, subst, Covers}
use Rattle.mxf_verify.specs.Candidates.{notes_of}
use Rattle.mxf_verify.specs.Telling.{notes_at}
use Rattle.mxf_verify.specs.ToldBytes.{is_told_differing, is_told_same}
use Rattle.mxf_verify.specs.declared.told.Told.{Told}
use Rattle.mxf_verify.proofs.ToldLaws.{tells_bytes}
use Rattle.mxf_verify.proofs.told_bytes.told_by.Goals as goal

pub returns : goal.returns
returns c reference all offset bound bytes are compared fits =
    let items = c.args.compared.now.candidates.items in
    let end = c.args.compared.now.end in
    let told : Told = record { same = c.in_ok-same.same; differing = c.in_ok-differing.differing } in
    tells_bytes reference all offset bound bytes c.args.compared.now are compared fits told c.in_ok-held.held
    (c.in_ok-same.ensures ∙ ap (λ l. notes_of (filter (is_told_same end) l)) c.deref.ensures.value)
    (c.in_ok-differing.ensures ∙ ap
    (λ l. notes_of (filter (is_told_differing end c.in_ok-held.held) l)) c.deref-3.ensures.value)
    (subst (λ l. Covers c.in_ok-held.held (notes_at l)) c.deref-2.ensures.value c.in_ok-held.ensures)
