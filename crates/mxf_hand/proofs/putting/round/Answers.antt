use Rattle.mxf_views.proofs.Common.{subst, AreReduced, IsContent}
use Rattle.mxf_hand.proofs.RoundLaws.{round_is}
use Rattle.mxf_hand.proofs.putting.round.Goals as goal

pub returns-then-is_more_read-clause-round : goal.returns-then-is_more_read-clause-round
returns-then-is_more_read-clause-round g c = λ h t b.
    let taken = c.in_ok-packets.ensures _ _ _ (c.in_ok-found.ensures.found h t (c.begin_round.ensures h b)) in
    round_is h c.args.views.now c.add_new.new.views c.add_new-2.new.views c.in_ok-packets.packets c.in_ok-packets.made
    taken.0 taken.1 c.in_ok-is_more_read.ensures.added c.in_ok-is_more_made.ensures.added
    (subst IsContent c.catalogue.ensures c.laws.ensures.catalogue.content)
    (subst AreReduced c.catalogue.ensures c.laws.ensures.reduced)

pub returns-else-is_more_read-clause-round : goal.returns-else-is_more_read-clause-round
returns-else-is_more_read-clause-round g c = λ h t b.
    let taken = c.in_ok-packets.ensures _ _ _ (c.in_ok-found.ensures.found h t (c.begin_round.ensures h b)) in
    round_is h c.args.views.now c.add_new.new.views c.add_new-2.new.views c.in_ok-packets.packets c.in_ok-packets.made
    taken.0 taken.1 c.in_ok-is_more_read.ensures.added c.in_ok-is_more_made.ensures.added
    (subst IsContent c.catalogue.ensures c.laws.ensures.catalogue.content)
    (subst AreReduced c.catalogue.ensures c.laws.ensures.reduced)

pub returns-then-is_more_read-clause-barren : goal.returns-then-is_more_read-clause-barren
returns-then-is_more_read-clause-barren g c = λ h t b. c.in_ok-found.ensures.barren h t (c.begin_round.ensures h b)

pub returns-else-is_more_read-clause-barren : goal.returns-else-is_more_read-clause-barren
returns-else-is_more_read-clause-barren g c = λ h t b. c.in_ok-found.ensures.barren h t (c.begin_round.ensures h b)
