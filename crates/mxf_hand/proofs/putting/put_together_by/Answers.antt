use Rattle.std.proofs.Common.{◌∙◌, sym}
use Rattle.mxf_hand.proofs.HandLaws.{are_told, one_hand, told_after}
use Rattle.mxf_hand.proofs.putting.put_together_by.Goals as goal

pub returns-clause-views : goal.returns-clause-views
returns-clause-views g c = λ given h told is same. c.in_ok-views.ensures.rounds h (told_after c.in_ok-hand.ensures.told
    (are_told given h told is (same ∙ sym c.in_ok-hand.ensures.scan) c.in_ok-hand.ensures.given
    (c.in_ok-hand.ensures.runs given told)))

pub returns-clause-hand : goal.returns-clause-hand
returns-clause-hand g c = λ given h told is.
    c.into_at_hand-at_hand.ensures.hand ∙ one_hand given _ h (c.in_ok-hand.ensures.runs given told) is
