use Rattle.mxf_views.proofs.Common.{List, subst, ap, ◌∙◌, NoteParts}
use Rattle.mxf_places.specs.Claims.{over_fills}
use Rattle.mxf_places.specs.Held.{AreDisputed}
use Rattle.mxf_places.proofs.held.Holdings.of.Goals as goal

pub invariant_of-result : goal.invariant_of-result
invariant_of-result c = (
  subst (λ (notes : List NoteParts). AreDisputed notes c.in_ok-disputed.disputed) c.catalogue.ensures
      c.in_ok-disputed.ensures,
  c.end_of_file-end.ensures,
  λ x. c.in_ok-fills.ensures x ∙ ap (λ (notes : List NoteParts). over_fills notes x) c.catalogue-2.ensures,
)
