use denote.Bor.{Bor}
use Rattle.mxf_views.proofs.Common.{◌∙◌, ◌&&◌, ◌==◌, List, ap, filter, map, nat_le, nat_lt, covered_end, NoteParts}
use Rattle.mxf_places.specs.Heads.{heads_to}
use Rattle.mxf_places.proofs.HeadLaws.{ending}
use Rattle.mxf_places.proofs.heads.Heads.near.Goals as goal

pub returns : goal.returns
returns c =
    let end = c.args.end in
    let near = c.between.ensures
    ∙ (λ i. filter (λ h. nat_le (c.saturating_sub.ensures i) h.now.offset && nat_lt h.now.offset end)
    (c.deref.ensures.value i)) in
    ap (λ (l : List (Bor NoteParts)). filter (λ n. covered_end n == end) (map (λ h. h.now) l)) near
    ∙ ending c.self.inside.catalogue.now c.self.inside.heads.items end c.self.invariant
    ∙ ap (heads_to end) c.self.view_is
