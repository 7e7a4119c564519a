-- What was seen, with the places that the segments give which are to come.
use Rattle.mxf_views.proofs.Common.{◌≡◌, drop, filter_map, ForSome, place_in}
use Rattle.mxf_units.specs.Streams.{IsSmall, only_place, place_of}
use Rattle.mxf_units.proofs.segments.place_of.Given as goal

abbrev pub invariant-loop-segment : goal.invariant-loop-segment
invariant-loop-segment l = record {
  place : only_place l.seen (filter_map (place_in l.unit) (drop l.segment-index l.segments))
      ≡ place_of l.segments l.unit;
  small : ForSome l.seen IsSmall;
}
