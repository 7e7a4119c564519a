use Rattle.mxf_views.proofs.Common.{◌∙◌, ap, KeptParts, is_rip_note, rips_of}
use Rattle.mxf_views.proofs.KeptLaws.{notes_at_offsets}
use Rattle.mxf_views.proofs.views.Views.random_index_packs.Goals as goal

pub returns : goal.returns
unfolding rips_of
returns c = c.of.ensures ∙ notes_at_offsets is_rip_note c.self.inside.catalogue _
    (c.deref.ensures.value ∙ ap (λ (k : KeptParts). k.rips) c.self.invariant) ∙ ap rips_of c.self.view_is
