use Rattle.mxf_views.proofs.Common.{[], ℕ, IsCover, List, subst, ◌∙◌, ◌↔◌, LiesIn}
use Rattle.mxf_catalogue.specs.declared.run.Run.{Run}
use Rattle.mxf_hand.specs.Passing.{with_each, with_inside}
use Rattle.mxf_hand.proofs.ExcerptLaws.{are_passed, if_ok}
use Rattle.mxf_hand.proofs.given.excerpt.passed_in.Goals as goal

pub returns-in_ok-around-in-Skim-clause-passed : goal.returns-in_ok-around-in-Skim-clause-passed
returns-in_ok-around-in-Skim-clause-passed c =
    let notes = c.args.catalogue.now in
    let insides = c.in_ok-insides-in-Skim.ensures in
    let around = c.in_ok-around-in-Skim.ensures in
    let cover = subst IsCover (c.insides-in-Skim.view_is ∙ insides) c.insides-in-Skim.invariant in
    if_ok c.outside.result _ _ c.outside.ensures.offsets (λ passed is x.
    let is_from = λ (first second : List Run) (y : ℕ). LiesIn passed y ↔ (LiesIn first y × ¬ LiesIn second y) in
    let all = are_passed notes passed cover (λ y.
    subst (λ (l : List Run). is_from (with_each with_inside [] notes) l y) around
    (subst (λ (l : List Run). is_from l c.in_ok-around-in-Skim.around y) insides (is y))) x in
    (λ l. (c.in-Skim.is, all.0 l), λ p. all.1 p.1))
