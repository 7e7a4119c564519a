use Rattle.mxf_views.proofs.Common.{◌∙◌, List, NoteParts, SegmentAtParts, ap, subst, sym}
use Rattle.mxf_units.specs.NextPlaces.{AreNextPlaces}
use Rattle.mxf_units.specs.Repeated.{SayAll}
use Rattle.mxf_units.specs.Streams.{segments_for}
use Rattle.mxf_units.proofs.RepeatedLaws.{said-next}
use Rattle.mxf_units.proofs.units.Units.of.Goals as goal

pub invariant_of-result : goal.invariant_of-result
invariant_of-result c =
    let left = c.in_ok-segments.segments in
    let all = c.in_ok-segments_for.ensures
    ∙ ap (λ (n : List NoteParts). segments_for n c.args.index_sid) (sym c.in_ok-holdings.ensures) in
    let say = subst (λ (l : List SegmentAtParts). SayAll l left) all c.in_ok-segments.ensures in (
      say,
      said-next _ left say c.in_ok-places.places
          (subst (λ (l : List SegmentAtParts). AreNextPlaces l c.in_ok-places.places) c.all.ensures c.in_ok-places.ensures),
      c.in_ok-parts.ensures,
      c.in_ok-known.ensures,
      c.in_ok-beside.ensures,
    )
