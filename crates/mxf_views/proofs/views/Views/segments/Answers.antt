use Rattle.mxf_views.proofs.Common.{◌∙◌, ap, KeptParts, segments_of}
use Rattle.mxf_views.proofs.views.Views.segments.Goals as goal

pub of-requires : goal.of-requires
of-requires c = c.deref.ensures.value ∙ ap (λ (k : KeptParts). k.segments) c.self.invariant

pub returns-clause-segments : goal.returns-clause-segments
returns-clause-segments c = c.of.ensures.segments ∙ ap segments_of c.self.view_is
