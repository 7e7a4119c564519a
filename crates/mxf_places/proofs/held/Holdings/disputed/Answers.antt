use Rattle.mxf_views.proofs.Common.{List, subst, NoteParts}
use Rattle.mxf_places.specs.Held.{AreDisputed}
use Rattle.mxf_places.proofs.held.Holdings.disputed.Goals as goal

pub returns : goal.returns
returns c =
    subst (λ (notes : List NoteParts). AreDisputed notes c.self.inside.disputed) c.self.view_is c.self.invariant.0
