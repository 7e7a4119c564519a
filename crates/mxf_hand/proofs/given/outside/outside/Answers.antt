use Rattle.mxf_views.proofs.Common.{◌∙◌, ◌↔◌, [], List, ap, subst, sym, AllByRecursion, IsCover, IsRun, LiesIn}
use Rattle.mxf_catalogue.specs.declared.run.Run.{Run}
use Rattle.mxf_hand.specs.Outside.{with_all_outside}
use Rattle.mxf_hand.proofs.OutsideLaws.{IsCover-with_all_outside, LiesIn-outside}
use Rattle.mxf_places.proofs.ByteLaws.{runs_of_cover}
use Rattle.mxf_hand.proofs.given.outside.outside.Goals as goal

pub loop-run-init : goal.loop-run-init
loop-run-init c =
    let holes = c.args.holes.now in
    let runs = c.into_iter-run-iterator.ensures.into_iter_gives ∙ c.runs-run-items.ensures.runs in record {
      all = λ i. with_all_outside (c.new-outside.ensures i) (runs i) holes;
      are = subst (AllByRecursion IsRun) (sym runs) (runs_of_cover c.args.cover.now c.runs-run-items.ensures.cover);
    }

pub returns-clause-offsets : goal.returns-clause-offsets
returns-clause-offsets c = λ x.
    let cover = c.args.cover.now in
    let holes = c.args.holes.now in
    let is = sym (ap (λ (l : List Run). with_all_outside c.loop-run.outside l holes) c.in-None.ensures.steps.0)
    ∙ c.loop-run.invariant.all in
    subst (λ (l : List Run). LiesIn l x ↔ (LiesIn cover x × ¬ LiesIn holes x)) (sym is)
    (LiesIn-outside cover holes x c.requires.maximal)

pub returns-clause-cover : goal.returns-clause-cover
returns-clause-cover c =
    let cover = c.args.cover.now in
    let holes = c.args.holes.now in
    let is = sym (ap (λ (l : List Run). with_all_outside c.loop-run.outside l holes) c.in-None.ensures.steps.0)
    ∙ c.loop-run.invariant.all in
    subst IsCover (sym is) (IsCover-with_all_outside [] cover holes (record { maximal = tt; within = tt })
    (runs_of_cover cover c.runs-run-items.ensures.cover))
