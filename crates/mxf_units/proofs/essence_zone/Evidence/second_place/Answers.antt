use Rattle.mxf_views.proofs.Common.{List, ap, subst, sym, ◌∙◌, NoteParts, IsRising, segments_of, place_cmp}
use Rattle.mxf_views.specs.declared.index.place.StreamPlace.{StreamPlace}
use Rattle.mxf_units.specs.Streams.{least_above, next_of, offsets_in, places_above}
use Rattle.mxf_units.proofs.LeastLaws.{least-in_order}
use Rattle.mxf_units.proofs.OrderLaws.{places-rise}
use Rattle.mxf_units.proofs.essence_zone.Evidence.second_place.Goals as goal

pub first_above-requires : goal.first_above-requires
first_above-requires c =
    subst (λ (xs : List StreamPlace). IsRising place_cmp xs) (sym (c.deref.ensures.value ∙ c.self.invariant.0))
    (places-rise (places_above 0 (segments_of c.self.inside.holdings.now)))

pub returns : goal.returns
returns c = c.first_above.ensures ∙ ap (λ (xs : List StreamPlace). least_above 0 (offsets_in c.args.body_sid xs))
    (c.deref.ensures.value ∙ c.self.invariant.0)
    ∙ least-in_order c.args.body_sid 0 (places_above 0 (segments_of c.self.inside.holdings.now))
    ∙ ap (λ (notes : List NoteParts). next_of (segments_of notes) c.args.body_sid 0) c.self.view_is
