use Rattle.mxf_views.proofs.Common.{IsTrue, List, subst, ◌↔◌, ◌∙◌, ◌<◌, ◌≤◌, ℕ, NoteParts}
use Rattle.mxf_places.specs.Held.{IsHeld}
use Rattle.mxf_places.proofs.held.Holdings.is_any_held.Goals as goal

pub returns : goal.returns
returns c =
    let covers = c.spans.ensures.spans in
    subst (λ (notes : List NoteParts). IsTrue c.meets.result
    ↔ ((at : ℕ) × IsHeld notes at × (c.args.from ≤ at) × (at < c.args.to))) (c.catalogue.ensures ∙ c.self.view_is) (
      λ h. let s = c.meets.ensures.0 h in (s.0, (covers s.0).0 s.1, s.2, s.3),
      λ h. c.meets.ensures.1 (h.0, (covers h.0).1 h.1, h.2, h.3),
    )
