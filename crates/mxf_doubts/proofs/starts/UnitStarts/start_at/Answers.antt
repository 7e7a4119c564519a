use Rattle.mxf_views.proofs.Common.{◌∙◌, List, subst, sym}
use Rattle.mxf_units.specs.EssenceZones.{IsFalling}
use Rattle.mxf_units.specs.declared.essence_zone.part.StreamPart.{StreamPart}
use Rattle.mxf_units.proofs.PartLaws.{parts-fall}
use Rattle.mxf_doubts.proofs.starts.UnitStarts.start_at.Goals as goal

pub zone_at-requires : goal.zone_at-requires
zone_at-requires c =
    subst (λ (parts : List StreamPart). IsFalling parts) (sym (c.deref.ensures.value ∙ c.self.invariant.1))
    (parts-fall c.self.inside.sizes)
