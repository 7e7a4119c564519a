use Rattle.mxf_views.proofs.Common.{◌≡◌, ◌↔◌, ◌⊎◌, ◌<◌, ◌≤◌, ℕ, List, Some, true, false, arith, length, subst}
use Rattle.mxf_views.proofs.Common.{on_ok_weaker, In, LiesIn}
use Rattle.std.proofs.Common.{slice_get}
use Rattle.mxf_restore.specs.declared.named.NamedPlace.{NamedPlace}
use Rattle.mxf_partial.specs.NearTable.{named_of}
use Rattle.mxf_partial.specs.declared.place_streams.PlaceOf.{PlaceOf}
use Rattle.mxf_partial.proofs.NearPlaces.{all_asked, asks_push}
use Rattle.mxf_partial.proofs.near.add_partitions.Goals as goal

pub loop-place-preserved : goal.loop-place-preserved
loop-place-preserved c = λ nm are.
    let u = c.args.units.now in
    let named = c.args.named.now in
    let l : c.loop-place.place-index < length c.args.places.now = omega (arith, c.loop-place-test.true) in
    asks_push u named c.in_ok-near.near nm are c.args.places.now c.loop-place.place-index _ c.loop-place.found
    c.add_place.new.found l (c.loop-place.invariant nm are) (c.in_ok-add_place.ensures u named nm are)

pub returns : goal.returns
returns c =
    let u = c.args.units.now in
    let named = c.args.named.now in
    let near = c.in_ok-near.near in
    let asked = c.loop-place.found in
    let are = c.in_ok-near.ensures.near in
    let end : length c.args.places.now ≤ c.loop-place.place-index = omega (arith, c.loop-place-test.false) in
    on_ok_weaker c.add_found.result
    (λ f. all_asked u named near c.requires are c.args.places.now c.loop-place.place-index asked c.args.asked.now.items
    c.add_found.new.asked.items end (c.loop-place.invariant c.requires are)
    (subst (λ (items : List PlaceOf). (n : NamedPlace) → In n c.add_found.new.asked.items
    ↔ (In n c.args.asked.now.items ⊎ (((asked.all ≡ true) × In n named) ⊎ ((asked.all ≡ false) × ((k : ℕ) × (p :
    PlaceOf) × (slice_get items k ≡ Some p) × LiesIn asked.positions k × (n ≡ named_of p))))))
    c.deref.ensures.value f))
    c.add_found.ensures
