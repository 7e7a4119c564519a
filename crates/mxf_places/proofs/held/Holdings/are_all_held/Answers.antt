use Rattle.mxf_views.proofs.Common.{IsTrue, List, subst, ◌↔◌, ◌∙◌, ◌<◌, ◌≤◌, ℕ, NoteParts}
use Rattle.mxf_places.specs.Held.{IsHeld}
use Rattle.mxf_places.proofs.held.Holdings.are_all_held.Goals as goal

pub returns : goal.returns
returns c =
    let covers = c.spans.ensures.spans in
    subst (λ (notes : List NoteParts). IsTrue c.has_all.result
    ↔ ((at : ℕ) → c.args.from ≤ at → at < c.args.to → IsHeld notes at)) (c.catalogue.ensures ∙ c.self.view_is) (
      λ h at from to. (covers at).0 (c.has_all.ensures.0 h at from to),
      λ h. c.has_all.ensures.1 (λ at from to. (covers at).1 (h at from to)),
    )
