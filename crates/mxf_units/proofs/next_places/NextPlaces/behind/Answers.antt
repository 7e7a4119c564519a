use Rattle.mxf_views.proofs.Common.{◌∙◌, ◌<◌, List, ap, arith, subst, sym, AllByRecursion}
use Rattle.mxf_views.specs.declared.index.place.StreamPlace.{StreamPlace}
use Rattle.mxf_units.specs.NextPlaces.{AreSized, end_number, first_number, next_by}
use Rattle.mxf_units.specs.Streams.{least_above, lesser, offsets_in}
use Rattle.mxf_units.proofs.LeastLaws.{lesser_assoc, small-least}
use Rattle.mxf_units.proofs.NextPlaceLaws.{all_around, around-least}
use Rattle.mxf_units.proofs.next_places.NextPlaces.behind.Goals as goal

pub lesser_above-next-requires-clause-sized : goal.lesser_above-next-requires-clause-sized
lesser_above-next-requires-clause-sized c =
    (all_around first_number end_number AreSized _ _ _ _ c.around.ensures c.self.invariant.2).0

pub lesser_above-next-requires-clause-small_next : goal.lesser_above-next-requires-clause-small_next
lesser_above-next-requires-clause-small_next c = λ x e.
    let l = small-least c.args.place.body_sid c.args.place.offset c.self.inside.listed.items x c.self.invariant.1
    (sym (c.first_above-listed.ensures
    ∙ ap (λ (xs : List StreamPlace). least_above c.args.place.offset (offsets_in c.args.place.body_sid xs))
    c.deref.ensures.value) ∙ e) in omega (arith, l)

pub first_behind-requires-clause-sized : goal.first_behind-requires-clause-sized
first_behind-requires-clause-sized c =
    (all_around first_number end_number AreSized _ _ _ _ c.around.ensures c.self.invariant.2).1

pub first_behind-requires-clause-behind : goal.first_behind-requires-clause-behind
first_behind-requires-clause-behind c =
    subst (λ n. AllByRecursion (λ u. n < first_number u) c.around.result.1.now) c.number_of.ensures
    c.around.ensures.behind

pub returns-clause-next : goal.returns-clause-next
returns-clause-next c =
    grind (arith, least_above, offsets_in, first_number, end_number, lesser, lesser_assoc, around-least, next_by)
