use Rattle.mxf_views.proofs.Common.{IsRising, ap, nat_cmp, subst, sym, ◌∙◌}
use Rattle.mxf_partial.specs.Questions.{QuestionParts, asked_by}
use Rattle.mxf_partial.proofs.AskLaws.{numbers_are_rising}
use Rattle.mxf_partial.proofs.wanted_units.WantedUnits.questions.Goals as goal

pub returns-clause-rising : goal.returns-clause-rising
returns-clause-rising c =
    subst (IsRising nat_cmp) (sym (ap (λ (q : QuestionParts). q.unindexed) c.self.invariant.2))
    (numbers_are_rising c.self.inside.questions.units c.self.invariant.0)
