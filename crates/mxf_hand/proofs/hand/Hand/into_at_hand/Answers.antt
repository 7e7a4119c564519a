use Rattle.mxf_views.proofs.Common.{List, subst, sym, LiesIn}
use Rattle.mxf_catalogue.specs.declared.run.Run.{Run}
use Rattle.mxf_hand.proofs.hand.Hand.into_at_hand.Goals as goal

pub of-requires : goal.of-requires
of-requires c = λ x lies.
    subst (λ (runs : List Run). LiesIn runs x) (sym c.into_given.ensures) (c.self.invariant.1 x lies)
