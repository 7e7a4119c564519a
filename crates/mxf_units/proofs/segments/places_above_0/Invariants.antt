-- The places so far, with the first ones of the segments that are to come.
use Rattle.std.proofs.Common.{◌≡◌, ◌++◌, drop, filter_map}
use Rattle.mxf_units.specs.Streams.{places_above, sized_above}
use Rattle.mxf_units.proofs.segments.places_above_0.Given as goal

abbrev pub invariant-loop-segment : goal.invariant-loop-segment
invariant-loop-segment l =
    l.places.items ++ filter_map (sized_above 0) (drop l.segment-index l.segments) ≡ places_above 0 l.segments
