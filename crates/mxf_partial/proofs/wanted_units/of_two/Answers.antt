use Rattle.mxf_views.proofs.Common.{◌∷◌, [], ◌∙◌, ap}
use Rattle.mxf_units.specs.Units.{unit_of}
use Rattle.mxf_partial.specs.Questions.{QuestionParts, asked_by, both}
use Rattle.mxf_partial.proofs.QuestionLaws.{asked_both}
use Rattle.mxf_partial.proofs.wanted_units.of_two.Goals as goal

pub returns : goal.returns
returns c =
    let u = c.args.units.now in
    let first = unit_of u.known u.index_sid c.args.first in
    let last = unit_of u.known u.index_sid c.args.last in
    c.in_ok-add-2.ensures ∙ ap (λ (q : QuestionParts). both q (asked_by u (last ∷ [])))
    (c.in_ok-add.ensures ∙ ap (λ (q : QuestionParts). both q (asked_by u (first ∷ []))) (c.in_ok-asked.ensures u)
    ∙ asked_both u [] (first ∷ [])) ∙ asked_both u (first ∷ []) (last ∷ [])
