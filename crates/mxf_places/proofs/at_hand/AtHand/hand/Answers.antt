use Rattle.mxf_views.proofs.Common.{ℕ, subst, LiesIn}
use Rattle.mxf_places.specs.AtHand.{AtHandParts}
use Rattle.mxf_places.proofs.at_hand.AtHand.hand.Goals as goal

pub returns-clause-within : goal.returns-clause-within
returns-clause-within c =
    subst (λ (a : AtHandParts). (x : ℕ) → LiesIn a.hand x → LiesIn a.given x) c.self.view_is c.self.invariant.within
