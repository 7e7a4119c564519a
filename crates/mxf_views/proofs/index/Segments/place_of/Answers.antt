use Rattle.mxf_views.proofs.Common.{◌∙◌, with_one, place_cmp}
use Rattle.mxf_views.proofs.PlaceLaws.{places_more, rises_more}
use Rattle.mxf_views.proofs.index.Segments.place_of.Goals as goal

pub loop-segment-preserved-in-Some-given_by : goal.loop-segment-preserved-in-Some-given_by
loop-segment-preserved-in-Some-given_by c =
    let places = c.loop-segment.invariant.0 in
    let given = c.in-Some-given_by.given in (
      with_one place_cmp given places,
      places_more places c.args.index_sid c.args.unit c.in-Some.segment c.next.new.self c.loop-segment.segment-iterator
          given c.in-Some.ensures.steps c.in-Some-given_by.ensures ∙ c.loop-segment.invariant.1,
      rises_more places given c.loop-segment.invariant.2,
      c.with-place.ensures places c.loop-segment.invariant.2 c.loop-segment.invariant.3,
    )
