use Rattle.mxf_views.proofs.Common.{List, flat_map, subst, sym, IsRising, place_cmp}
use Rattle.mxf_views.specs.declared.index.place.StreamPlace.{StreamPlace}
use Rattle.mxf_units.specs.NextPlaces.{AreSized}
use Rattle.mxf_units.specs.Streams.{listed_in}
use Rattle.mxf_units.proofs.NextPlaceLaws.{all_permuted, next-of_segments}
use Rattle.mxf_units.proofs.OrderLaws.{places-rise}
use Rattle.mxf_units.proofs.next_places.NextPlaces.of.Goals as goal

pub invariant_of-result : goal.invariant_of-result
invariant_of-result c = (
  subst (λ (xs : List StreamPlace). IsRising place_cmp xs) (sym c.in_ok-listed.ensures.places)
      (places-rise (flat_map listed_in c.args.segments.now)),
  c.in_ok-listed.ensures.small,
  all_permuted AreSized _ _ c.in_ok-constant.ensures c.in_ok-constant_units.ensures.sized,
)

pub returns : goal.returns
returns c =
    next-of_segments c.args.segments.now _ _ _ c.in_ok-listed.ensures.places c.in_ok-constant_units.ensures.units
    c.in_ok-constant.ensures
