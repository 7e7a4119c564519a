use Rattle.std.proofs.Common.{◌≡◌, ◌+◌, arith}
use Rattle.mxf_partial.proofs.NearLaws.{from_both}
use Rattle.mxf_partial.proofs.near.from_place.Goals as goal

pub returns : goal.returns
returns c = λ order.
    let low = c.args.low.from + c.args.low.more in
    let to = (c.args.low.from + 1) + c.args.low.more in
    let up : to ≡ low + 1 = omega arith in
    from_both c.args.places.now c.args.body_sid low to c.last_place.result c.last_place-2.result c.max.result up
    (c.last_place.ensures.is order) (c.last_place.ensures.greatest order) (c.last_place-2.ensures.is order)
    (c.last_place-2.ensures.greatest order) c.max.ensures
