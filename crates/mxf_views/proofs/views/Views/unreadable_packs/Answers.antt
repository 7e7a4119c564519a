use Rattle.mxf_views.proofs.Common.{◌∙◌, ap, filter, clear_notes, is_no_unreadable_pack, KeptParts, not, NoteParts}
use Rattle.mxf_views.proofs.KeptLaws.{notes_at_offsets}
use Rattle.mxf_views.proofs.views.Views.unreadable_packs.Goals as goal

pub returns : goal.returns
returns c =
    let test = λ (n : NoteParts). not (is_no_unreadable_pack n) in
    c.of.ensures ∙ notes_at_offsets test c.self.inside.catalogue _
    (c.deref.ensures.value ∙ ap (λ (k : KeptParts). k.unreadable) c.self.invariant)
    ∙ ap (λ notes. filter test (clear_notes notes)) c.self.view_is
