use Rattle.mxf_views.proofs.Common.{◌∙◌, List, ap, rules, IsNonDecreasingBy-from_sort, answers_always}
use Rattle.mxf_catalogue.specs.declared.run.Run.{Run}
use Rattle.mxf_units.specs.Intervals.{greatest_ends}
use Rattle.mxf_units.proofs.NextPlaceLaws.{permuted}
use Rattle.mxf_verify.proofs.ranges.Reach.of.Goals as goal

pub invariant_of-result : goal.invariant_of-result
invariant_of-result c = record {
  rising = IsNonDecreasingBy-from_sort (λ (r : Run). r.start) _ (c.sort_unstable_by_key.ensures.sorted
      (λ (r : Run). r.start) (answers_always _ _ _ (λ f a r g h. search rules)));
  ends_are = c.in_ok-ends.ensures ∙ ap (λ (l : List Run). greatest_ends (λ r. r.end) 0 l) c.deref.ensures.value;
}

pub returns : goal.returns
returns c = permuted c.args.runs.items c.sort_unstable_by_key.new.self.items c.sort_unstable_by_key.ensures.permutation
