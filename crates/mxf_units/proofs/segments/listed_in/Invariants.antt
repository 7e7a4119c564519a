-- The places so far, with those of the segments that are to come.
use Rattle.mxf_views.proofs.Common.{◌≡◌, ◌++◌, drop, flat_map, AllByRecursion}
use Rattle.mxf_units.specs.Streams.{IsSmall, listed_in}
use Rattle.mxf_units.proofs.segments.listed_in.Given as goal

abbrev pub invariant-loop-segment : goal.invariant-loop-segment
invariant-loop-segment l = record {
  places : l.places.items ++ flat_map listed_in (drop l.segment-index l.segments) ≡ flat_map listed_in l.segments;
  small : AllByRecursion IsSmall l.places.items;
}
