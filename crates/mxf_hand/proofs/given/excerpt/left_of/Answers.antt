use Rattle.mxf_views.proofs.Common.{◌∙◌, ◌+◌, ap}
use Rattle.mxf_hand.specs.Outside.{with_some}
use Rattle.mxf_hand.proofs.ExcerptLaws.{if_ok, left_is}
use Rattle.mxf_hand.proofs.given.excerpt.left_of.Goals as goal

pub returns-clause-offsets : goal.returns-clause-offsets
returns-clause-offsets c =
    let e = c.args.extent in
    let own = c.in_ok-add_some.ensures ∙ ap (with_some e.offset (e.offset + e.size)) c.new-own.ensures in
    if_ok c.outside.result _ _ c.outside.ensures.offsets
    (λ left is. left_is c.add_some.new.outside c.args.given.now c.args.passed.now c.in_ok-again.again
    c.in_ok-repeated.repeated left e own c.in_ok-again.ensures c.in_ok-repeated.ensures is)
