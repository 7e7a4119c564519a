-- The units so far, with those of the segments to come.
use Rattle.mxf_views.proofs.Common.{◌≡◌, ◌++◌, drop, filter_map, AllByRecursion}
use Rattle.mxf_units.specs.NextPlaces.{AreSized, constant_units}
use Rattle.mxf_units.proofs.constant_units.constant_units.Given as goal

abbrev pub invariant-loop-segment : goal.invariant-loop-segment
invariant-loop-segment l = record {
  units : l.units.items ++ filter_map constant_units (drop l.segment-index l.segments)
      ≡ filter_map constant_units l.segments;
  sized : AllByRecursion AreSized l.units.items;
}
