use Rattle.mxf_views.proofs.Common.{◌∙◌, ap, map, subst, sym, KeptParts, RiseBy, segments_of}
use Rattle.mxf_views.specs.Places.{without_entries}
use Rattle.mxf_views.proofs.KeptLaws.{segments_in_numbers, segments_rise_by}
use Rattle.mxf_views.proofs.views.Views.segments_in_numbers.Goals as goal

pub returns-clause-segments : goal.returns-clause-segments
returns-clause-segments c = c.deref.ensures.value ∙ ap (λ (k : KeptParts). k.segments) c.self.invariant
    ∙ segments_in_numbers c.self.inside.catalogue ∙ ap (λ notes. map without_entries (segments_of notes)) c.self.view_is

pub returns-clause-rising : goal.returns-clause-rising
returns-clause-rising c =
    subst (RiseBy (λ s. s.offset)) (sym (c.deref.ensures.value ∙ ap (λ (k : KeptParts). k.segments) c.self.invariant))
    (segments_rise_by c.self.inside.catalogue c.laws.ensures.catalogue.content)
