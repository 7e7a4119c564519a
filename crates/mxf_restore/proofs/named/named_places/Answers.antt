use Rattle.mxf_views.proofs.Common.{◌≡◌, ◌∙◌, ap, filter_map, subst, sym, IfOk-weaker, In, IsRising}
use Rattle.mxf_restore.specs.NamedPlaces.{AreFirst, IsNamedPlace, named_place_of, place_cmp}
use Rattle.mxf_restore.specs.declared.named.NamedPlace.{NamedPlace}
use Rattle.mxf_restore.proofs.NamedPlaceLaws.{named_is, places_of, places_rise, places_say}
use Rattle.mxf_restore.proofs.named.named_places.Goals as goal

pub returns-clause-rising : goal.returns-clause-rising
returns-clause-rising c =
    let entries = c.in_ok-sources.sources.entries in
    IfOk-weaker c.places_in.result (λ v. v.items ≡ places_of entries) (λ v. IsRising place_cmp v.items)
    (λ v e. subst (IsRising place_cmp) (sym e) (places_rise entries c.places_in.ensures.rising))
    c.places_in.ensures.items

pub returns-clause-members : goal.returns-clause-members
returns-clause-members c =
    let notes = c.args.holdings.now in
    let entries = c.in_ok-sources.sources.entries in
    let told = subst (λ l. AreFirst l entries)
    (c.in_ok-places.ensures ∙ ap (filter_map (named_place_of notes)) c.requires) c.in_ok-sources.ensures in
    IfOk-weaker c.places_in.result (λ v. v.items ≡ places_of entries)
    (λ v. (n : NamedPlace) → (In n v.items → IsNamedPlace notes n) × (IsNamedPlace notes n → In n v.items)) (λ v e n.
    let say = places_say entries n c.places_in.ensures.rising in
    let is = named_is notes entries n told in (
      λ h. is.0 (say.0 (subst (In n) e h)),
      λ k. subst (In n) (sym e) (say.1 (is.1 k)),
    ))
    c.places_in.ensures.items
