-- The places so far, with those of the units that are to come.
use Rattle.mxf_views.proofs.Common.{◌≡◌, ◌++◌, ◌-◌, filter_map, AllByRecursion, range_with_len, place_in}
use Rattle.mxf_units.specs.Streams.{IsSmall}
use Rattle.mxf_units.proofs.segments.add_listed.Given as goal

abbrev pub invariant-loop-unit : goal.invariant-loop-unit
invariant-loop-unit l = record {
  places : l.places.items ++ filter_map (λ unit. place_in unit l.segment) (range_with_len l.unit (l.end - l.unit))
      ≡ l.fn.places.items ++ filter_map (λ unit. place_in unit l.segment) (range_with_len l.start (l.end - l.start));
  small : AllByRecursion IsSmall l.places.items;
}
