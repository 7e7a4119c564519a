use Rattle.mxf_views.proofs.Common.{◌∙◌, ◌++◌, ap, SegmentAtParts}
use Rattle.mxf_places.proofs.LoopLaws.{appended-step}
use Rattle.mxf_units.specs.Streams.{listed_in}
use Rattle.mxf_units.proofs.segments.listed_in.Goals as goal

pub loop-segment-preserved : goal.loop-segment-preserved
loop-segment-preserved c =
    let so_far = c.loop-segment.places.items in record {
      places = appended-step listed_in c.args.segments.now c.loop-segment.segment-index c.segment-item.result so_far
          _ _ c.loop-segment-test.true (c.in_ok-add_listed.ensures.places
          ∙ ap (λ (s : SegmentAtParts). so_far ++ listed_in s) c.segment-item.is)
          c.loop-segment.invariant.places;
      small = c.in_ok-add_listed.ensures.small;
    }
