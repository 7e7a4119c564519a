use Rattle.mxf_views.proofs.Common.{◌≡◌, ◌∙◌, ◌==◌, ◌&&◌, List, NoteParts, ap, false, length, option_map_or}
use Rattle.mxf_views.specs.Copies.{copies_of, preferred_of}
use Rattle.mxf_views.specs.declared.copy.CopyInfo.{CopyInfo}
use Rattle.mxf_units.specs.Units.{UnitsParts}
use Rattle.mxf_partial.specs.Questions.{QuestionParts}
use Rattle.mxf_partial.specs.Wanted.{WantedParts, are_indexed, wanted_units}
use Rattle.mxf_partial.proofs.QuestionLaws.{none_unindexed}
use Rattle.mxf_partial.proofs.plan.is_described.Goals as goal

pub returns-then-has_finished_copy : goal.returns-then-has_finished_copy
returns-then-has_finished_copy c =
    let w : WantedParts = c.args.wanted.now in
    let indexed : c.is_empty.result ≡ are_indexed w =
    c.is_empty.ensures ∙ ap (λ l. length l == 0) c.unindexed.ensures
    ∙ ap (λ (q : QuestionParts). length q.unindexed == 0) c.questions.ensures.are ∙ none_unindexed (wanted_units w) in
    let notes = c.views.ensures ∙ c.holdings.ensures ∙ ap (λ (u : UnitsParts). u.known.notes) c.units.ensures in
    indexed ∙ ap (λ b. b && are_indexed w) (c.if-has_finished_copy.ensures
    ∙ ap (λ (l : List NoteParts). option_map_or (λ (c : CopyInfo). c.finished) (preferred_of (copies_of l)) false) notes)
