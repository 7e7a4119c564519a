use Rattle.mxf_hand.proofs.ExcerptLaws.{if_ok, outside_twice}
use Rattle.mxf_hand.proofs.given.excerpt.within.Goals as goal

pub returns : goal.returns
returns c = if_ok c.outside-2.result _ _ c.outside-2.ensures.offsets
    (λ both is. outside_twice c.args.cover.now c.args.other.now _ both c.in_ok-without.ensures.offsets is)
