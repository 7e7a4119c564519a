use Rattle.mxf_views.proofs.Common.{◌∙◌, ap, rules, IsNonDecreasingBy-from_sort, answers_always}
use Rattle.mxf_units.specs.Intervals.{greatest_ends}
use Rattle.mxf_units.proofs.intervals.Intervals.of.Goals as goal

pub invariant_of-result : goal.invariant_of-result
invariant_of-result g c = record {
  rising = IsNonDecreasingBy-from_sort g.T.Interval.first _ (c.sort_unstable_by_key.ensures.sorted g.T.Interval.first
      (answers_always _ _ _ (λ f a r h k. search rules)));
  ends_are = c.in_ok-ends.ensures ∙ ap (greatest_ends g.T.Interval.end 0) c.deref.ensures.value;
}
