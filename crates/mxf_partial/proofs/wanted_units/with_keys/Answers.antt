use Rattle.mxf_views.proofs.Common.{◌≡◌, ◌+◌, ◌-◌, ◌∙◌, ap}
use Rattle.mxf_units.specs.Ranges.{needed_from, units_from}
use Rattle.mxf_units.proofs.RangeLaws.{units_append}
use Rattle.mxf_partial.specs.Questions.{QuestionParts, asked_by, both}
use Rattle.mxf_partial.proofs.QuestionLaws.{asked_both}
use Rattle.mxf_partial.proofs.wanted_units.with_keys.Goals as goal

pub returns : goal.returns
returns c =
    let u = c.args.units.now in
    let first = c.args.first in
    let count = c.args.count in
    let from = c.needed_from-from.result in
    let own = c.in_ok-own.ensures in
    let needed : from ≡ needed_from first (units_from u first count) =
    c.needed_from-from.ensures.first ∙ ap (needed_from first) (c.units.ensures ∙ ap (λ (q : QuestionParts). q.units) own) in
    c.in_ok-append.ensures ∙ (λ i. both (c.in_ok-all.ensures i) (own i))
    ∙ asked_both u (units_from u from (first - from)) (units_from u first count)
    ∙ ap (asked_by u) (units_append u from first count c.needed_from-from.ensures.bound
    ∙ ap (λ f. units_from u f (first - f + count)) needed)
