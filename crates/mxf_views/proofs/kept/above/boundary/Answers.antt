use Rattle.mxf_views.proofs.Common.{sym, ◌∙◌}
use Rattle.mxf_views.proofs.AboveLaws.{meet_at}
use Rattle.mxf_catalogue.proofs.RunBounds.{all_above, none_above}
use Rattle.mxf_views.proofs.kept.above.boundary.Goals as goal

pub returns-in_default : goal.returns-in_default
returns-in_default c =
    let own = c.laws.ensures in
    let other = c.laws-2.ensures in
    meet_at c.end-end.result c.args.own.now c.args.other.now c.spans.result.now own.catalogue other.catalogue
    own.reduced
    other.reduced c.spans.ensures.spans c.end-end.ensures
    (all_above c.end-end.result c.spans.result.now c.next.new.self c.in-Some.first c.runs.ensures.cover.maximal
    (sym c.runs.ensures.runs ∙ c.in-Some.ensures.steps) c.if-first-end.false)

pub returns-in_default-2 : goal.returns-in_default-2
returns-in_default-2 c =
    let own = c.laws.ensures in
    let other = c.laws-2.ensures in
    meet_at c.end-end.result c.args.own.now c.args.other.now c.spans.result.now own.catalogue other.catalogue
    own.reduced
    other.reduced c.spans.ensures.spans c.end-end.ensures
    (none_above c.end-end.result c.spans.result.now (sym c.runs.ensures.runs ∙ c.in_default.ensures.steps.0))
