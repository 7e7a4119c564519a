use Rattle.mxf_views.proofs.Common.{IsTrue, List, subst, ◌↔◌, ◌<◌, ◌≤◌, ℕ, NoteParts}
use Rattle.mxf_places.specs.Held.{IsDisputedAt}
use Rattle.mxf_places.proofs.held.Holdings.is_any_disputed.Goals as goal

pub returns : goal.returns
returns c =
    let disputed = c.self.invariant.0 in
    subst (λ (notes : List NoteParts). IsTrue c.meets.result
    ↔ ((at : ℕ) × IsDisputedAt notes at × (c.args.from ≤ at) × (at < c.args.to))) c.self.view_is (
      λ h. let s = c.meets.ensures.0 h in (s.0, (disputed s.0).0 s.1, s.2, s.3),
      λ h. c.meets.ensures.1 (h.0, (disputed h.0).1 h.1, h.2, h.3),
    )
