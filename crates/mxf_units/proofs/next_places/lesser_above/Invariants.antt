-- The least so far, with the first ones of the units that are to come.
use Rattle.mxf_views.proofs.Common.{◌≡◌, ◌+◌, ◌≤◌, ◌^◌, drop, filter_map, ForSome}
use Rattle.mxf_units.specs.NextPlaces.{place_above}
use Rattle.mxf_units.specs.Streams.{least_above, lesser, offsets_in}
use Rattle.mxf_units.proofs.next_places.lesser_above.Given as goal

abbrev pub invariant-loop-units : goal.invariant-loop-units
invariant-loop-units l = record {
  next : lesser l.least (least_above l.place.offset (offsets_in l.place.body_sid
      (filter_map (place_above l.place.offset) (drop l.units-index l.near))))
      ≡ lesser l.fn.next (least_above l.place.offset (offsets_in l.place.body_sid
      (filter_map (place_above l.place.offset) l.near)));
  small : ForSome l.least (λ n. n + 2 ^ 96 ≤ 2 ^ 128);
}
