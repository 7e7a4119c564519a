use Rattle.mxf_views.proofs.Common.{◌∙◌, ap, filter, sym, subst, List, NoteParts}
use Rattle.mxf_units.specs.EssenceZones.{IsFalling, parts_of}
use Rattle.mxf_units.specs.declared.essence_zone.part.StreamPart.{StreamPart}
use Rattle.mxf_units.proofs.PartLaws.{parts-fall}
use Rattle.mxf_doubts.specs.StreamEnds.{is_of_stream, last_zone, zone_of_last}
use Rattle.mxf_doubts.proofs.stream_ends.StreamEnds.last_zone.Goals as goal

pub last_zone_in-requires : goal.last_zone_in-requires
last_zone_in-requires c =
    subst (λ (parts : List StreamPart). IsFalling parts) (sym (c.deref.ensures.value ∙ c.self.invariant.0))
    (parts-fall c.self.inside.sizes)

pub returns : goal.returns
unfolding last_zone
returns c =
    c.last_zone_in.ensures
    ∙ ap (λ (parts : List StreamPart). zone_of_last (filter (is_of_stream c.args.body_sid) parts))
    (c.deref.ensures.value ∙ c.self.invariant.0)
    ∙ ap (λ (l : List NoteParts). zone_of_last (filter (is_of_stream c.args.body_sid) (parts_of l))) c.self.view_is
