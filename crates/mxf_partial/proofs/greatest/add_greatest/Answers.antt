use Rattle.mxf_views.proofs.Common.{ap, inl, refl, subst, SegmentParts, SegmentAtParts}
use Rattle.mxf_units.specs.LastUnits.{IsEndless}
use Rattle.mxf_partial.specs.Greatest.{GivesNone}
use Rattle.mxf_partial.proofs.greatest.add_greatest.Goals as goal

pub returns-in_default : goal.returns-in_default
returns-in_default c = inl (
  refl,
  subst (λ (p : SegmentParts). ¬ IsEndless p → GivesNone p) (ap (λ (t : SegmentAtParts). t.segment) c.segment.view_is)
      c.in_default.ensures,
)
