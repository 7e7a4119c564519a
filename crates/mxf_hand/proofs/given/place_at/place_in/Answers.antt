use Rattle.mxf_views.proofs.Common.{◌≡◌, ◌<◌, Some, refl, subst, length, slice_get_read, slice_get}
use Rattle.std.proofs.lemmas.Option.{slice_get_past}
use Rattle.mxf_hand.specs.declared.given.Place.{Place}
use Rattle.mxf_hand.proofs.PlaceLaws.{ends_never_fall, first_above, none_has}
use Rattle.mxf_hand.proofs.given.place_at.place_in.Goals as goal

pub up_to-requires : goal.up_to-requires
up_to-requires c = ends_never_fall 0 c.args.places.now c.requires.apart c.requires.some

pub returns-in_err-place-clause-none : goal.returns-in_err-place-clause-none
returns-in_err-place-clause-none c =
    let past = slice_get_past c.args.places.now c.up_to.result c.in_err-place.ensures.lookup.3 in
    rw c.from_residual.ensures
    (none_has 0 c.args.places.now c.args.offset c.up_to.result c.requires.apart c.requires.some c.up_to.ensures.below
    (λ q e. absurd cc))

pub returns-then-offset-place-clause-none : goal.returns-then-offset-place-clause-none
returns-then-offset-place-clause-none c =
    let at = c.in_ok-place.ensures.lookup.3 in
    let found : slice_get c.args.places.now c.up_to.result ≡ Some c.in_ok-place.place.now =
    slice_get_read c.args.places.now (length c.args.places.now) c.up_to.result c.in_ok-place.place.now refl at.0
    (at.1 c.in_ok-place.place.now) in
    none_has 0 c.args.places.now c.args.offset c.up_to.result c.requires.apart c.requires.some c.up_to.ensures.below
    (λ q e.
    let same : c.in_ok-place.place.now ≡ q = cc in
    subst (λ (p : Place). c.args.offset < p.start) same c.if-offset-place.true)

pub returns-clause-some : goal.returns-clause-some
returns-clause-some c =
    let at = c.in_ok-place.ensures.lookup.3 in
    let found : slice_get c.args.places.now c.up_to.result ≡ Some c.in_ok-place.place.now =
    slice_get_read c.args.places.now (length c.args.places.now) c.up_to.result c.in_ok-place.place.now refl at.0
    (at.1 c.in_ok-place.place.now) in
    let first = first_above c.args.places.now c.args.offset c.up_to.result c.in_ok-place.place.now found
    c.up_to.ensures.above in
    (first.0, record { from = c.if-offset-place.false; before = first.1 })
