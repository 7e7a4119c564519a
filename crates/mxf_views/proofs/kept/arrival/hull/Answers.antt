use Rattle.mxf_views.proofs.Common.{◌≡◌, ◌∙◌, ap, subst, sym, max, min}
use Rattle.mxf_views.proofs.ClearChanges.{HullSoFar, hull_of_all, hull_of_one, hull_with}
use Rattle.mxf_views.proofs.kept.arrival.hull.Goals as goal

pub loop-other-init : goal.loop-other-init
loop-other-init c =
    let x = c.args.note.now in
    let notes = c.args.catalogue.now in
    let left = c.into_iter-other-iterator.result in
    subst (λ start. HullSoFar x notes start c.end-end.result left) (sym c.offset-start.ensures.offset)
    (subst (λ end. HullSoFar x notes x.offset end left) (sym c.end-end.ensures) (hull_of_one x notes left
    (c.into_iter-other-iterator.ensures.into_iter_gives ∙ c.clear_touching-other-items.ensures.notes)))

pub loop-other-preserved : goal.loop-other-preserved
loop-other-preserved c =
    let x = c.args.note.now in
    let notes = c.args.catalogue.now in
    let start = c.loop-other.start in
    let end = c.loop-other.end in
    let left = c.next.new.self in
    let low : c.min-start.result ≡ min start c.in-Some.other.now.offset =
    c.min-start.ensures ∙ ap (min start) c.offset.ensures.offset in
    let high = c.max-end.ensures ∙ ap (max end) c.end.ensures in
    subst (λ s. HullSoFar x notes s c.max-end.result left) (sym low)
    (subst (λ e. HullSoFar x notes (min start c.in-Some.other.now.offset) e left) (sym high)
    (hull_with x notes start end c.in-Some.other.now left
    (subst (HullSoFar x notes start end) c.in-Some.ensures.steps c.loop-other.invariant)))

pub returns-clause-hull : goal.returns-clause-hull
returns-clause-hull c =
    let x = c.args.note.now in
    let notes = c.args.catalogue.now in
    hull_of_all x notes c.loop-other.start c.loop-other.end
    (subst (HullSoFar x notes c.loop-other.start c.loop-other.end) c.in-None.ensures.steps.0 c.loop-other.invariant)
