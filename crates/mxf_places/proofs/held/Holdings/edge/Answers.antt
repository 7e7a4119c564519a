use Rattle.mxf_views.proofs.Common.{◌∙◌, ◌<◌, ℕ, ap, max, subst, sym, unwrap_or, IsCover, LiesIn}
use Rattle.mxf_places.specs.AtHand.{runs_end}
use Rattle.mxf_places.specs.Held.{end_of_file}
use Rattle.mxf_places.proofs.AtHandLaws.{runs_end-bound}
use Rattle.mxf_places.proofs.HeldLaws.{same_bounds}
use Rattle.mxf_places.proofs.held.Holdings.edge.Goals as goal

pub returns : goal.returns
returns c =
    let runs = c.given.result.now in
    let cover = subst IsCover (sym c.given.ensures.given) c.given.ensures.cover in
    let end = same_bounds c.end.result (runs_end runs) (λ bound. (x : ℕ) → LiesIn runs x → x < bound) c.end.ensures
    (runs_end-bound 0 runs cover.maximal) ∙ ap runs_end c.given.ensures.given in
    let known = c.max-known.ensures ∙ λ i. max (c.greatest_end.ensures i) (end i) in
    c.unwrap_or.ensures ∙ λ i. unwrap_or ((c.self.invariant.1 ∙ ap end_of_file c.self.view_is) i) (known i)
