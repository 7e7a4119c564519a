use Rattle.mxf_views.proofs.Common.{◌∙◌, List, map, subst, sym, at_drop_all, IsCover, union_of_runs}
use Rattle.mxf_hand.specs.Differing.{run_of_difference}
use Rattle.mxf_hand.specs.declared.given.differing.Difference.{Difference}
use Rattle.mxf_hand.proofs.DifferingLaws.{differences_cover}
use Rattle.mxf_hand.proofs.given.differing.Differing.cover.Goals as goal

pub returns-clause-cover : goal.returns-clause-cover
returns-clause-cover c =
    let all = c.deref-difference-items.result.now in
    let is = sym (at_drop_all (λ (ds : List Difference). union_of_runs c.loop-difference.cover
    (map run_of_difference ds))
    all c.loop-difference.difference-index c.loop-difference-test.false) ∙ c.loop-difference.invariant.all in
    subst IsCover (sym is) (differences_cover all c.loop-difference.invariant.are)
