use Rattle.mxf_klv.proofs.Lists.{In-at}
use Rattle.mxf_hand.proofs.given.placing.cover_of.Goals as goal

pub add-requires-clause-order : goal.add-requires-clause-order
add-requires-clause-order c =
    (c.requires _ (In-at c.args.places.now c.loop-place.place-index _ c.loop-place-test.true)).order

pub add-requires-clause-within : goal.add-requires-clause-within
add-requires-clause-within c =
    (c.requires _ (In-at c.args.places.now c.loop-place.place-index _ c.loop-place-test.true)).within
