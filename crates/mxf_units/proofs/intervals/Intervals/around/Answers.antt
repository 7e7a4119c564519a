use Rattle.mxf_views.proofs.Common.{◌∙◌, ◌<◌, ◌≤◌, List, ℕ, ap, drop, length, subst, sym, take, AllWithin}
use Rattle.mxf_views.proofs.Common.{IsNonDecreasing}
use Rattle.mxf_units.specs.Intervals.{IsAround}
use Rattle.mxf_units.proofs.IntervalLaws.{around, ends-rise}
use Rattle.mxf_units.proofs.intervals.Intervals.around.Goals as goal

pub ended_below-requires : goal.ended_below-requires
ended_below-requires g c =
    subst (λ ends. IsNonDecreasing ends) (sym (c.deref-3.ensures.value ∙ c.self.invariant.ends_are))
    (ends-rise g.T.Interval.end 0 c.self.inside.intervals.items)

pub returns : goal.returns
returns g c =
    let first = g.T.Interval.first in
    let end = g.T.Interval.end in
    let begun = c.begun_by-begun.ensures in
    let ended = c.ended_below.ensures in
    let front = c.split_at.result.0.now in
    let near = c.split_at-2.result.1.now in
    let above = c.split_at.result.1.now in
    subst (λ all. IsAround first end c.args.at all near above) c.self.view_is
    (around first end c.self.inside.intervals.items c.self.inside.ends.items c.args.at c.begun_by-begun.result
    c.ended_below.result front above near c.self.invariant
    (subst (λ (xs : List _). c.begun_by-begun.result ≤ length xs) c.deref.ensures.value begun.bound)
    (subst (λ (xs : List ℕ). c.ended_below.result ≤ length xs) c.deref-3.ensures.value ended.bound)
    (subst (λ (xs : List _). AllWithin (λ x. c.args.at < first x) xs c.begun_by-begun.result (length xs))
    c.deref.ensures.value begun.above)
    (subst (λ (xs : List ℕ). AllWithin (λ x. x < c.args.at) xs 0 c.ended_below.result) c.deref-3.ensures.value
    ended.below) (c.split_at.ensures.front ∙ ap (take c.begun_by-begun.result) c.deref-2.ensures.value)
    (c.split_at.ensures.back ∙ ap (drop c.begun_by-begun.result) c.deref-2.ensures.value)
    (c.split_at-2.ensures.back ∙ ap (λ k. drop k front) c.min-ended.ensures))
