use Rattle.mxf_views.proofs.Common.{◌∙◌, [], List, ap, map, subst, sym, union_of_runs, In}
use Rattle.mxf_catalogue.specs.declared.run.Run.{Run}
use Rattle.mxf_hand.specs.Places.{ArePlaces, AreSpans, overlaps_below, places_above, run_of}
use Rattle.mxf_hand.specs.declared.given.Extent.{Extent}
use Rattle.mxf_hand.specs.declared.given.Place.{Place}
use Rattle.mxf_hand.proofs.PlacingLaws.{are_places, place_run}
use Rattle.mxf_hand.proofs.given.Given.of.Goals as goal

pub cover_of-requires : goal.cover_of-requires
cover_of-requires c =
    let spans = c.in_ok-spans.spans.items in
    let are = subst (λ (es : List Extent). AreSpans es spans) c.deref.ensures.value c.in_ok-spans.ensures in
    let places = c.deref-4.ensures.value ∙ c.in_ok-places.ensures ∙ ap (places_above 0) c.deref-2.ensures.value in
    λ p h. place_run c.args.extents.items spans are p (subst (λ (l : List Place). In p l) places h)

pub invariant_of-result : goal.invariant_of-result
invariant_of-result c =
    let extents = c.args.extents.items in
    let spans = c.in_ok-spans.spans.items in
    let are = subst (λ (es : List Extent). AreSpans es spans) c.deref.ensures.value c.in_ok-spans.ensures in
    let places = c.in_ok-places.ensures ∙ ap (places_above 0) c.deref-2.ensures.value in
    let overlaps = c.in_ok-overlaps.ensures ∙ ap (overlaps_below 0) c.deref-3.ensures.value in
    let given = c.in_ok-given.ensures
    ∙ ap (λ (l : List Place). union_of_runs [] (map run_of l)) (c.deref-4.ensures.value ∙ places) in
    subst (λ (g : List Run). ArePlaces extents c.in_ok-places.places.items c.in_ok-overlaps.overlaps.items g)
    (sym given) (subst (λ (o : List Place). ArePlaces extents c.in_ok-places.places.items o
    (union_of_runs [] (map run_of (places_above 0 spans)))) (sym overlaps)
    (subst (λ (l : List Place). ArePlaces extents l (overlaps_below 0 spans)
    (union_of_runs [] (map run_of (places_above 0 spans)))) (sym places) (are_places extents spans are)))
