use Rattle.std.proofs.Common.{◌∙◌, ap, rules, List, subst}
use Rattle.std.specs.List.Sorted.{IsPermutation}
use Rattle.std.proofs.lemmas.List.Sorted.{IsNonDecreasingBy-from_sort, answers_always}
use Rattle.mxf_timed.specs.declared.coverage.Span.{Span}
use Rattle.mxf_timed.specs.Spans.{latest_from, no_latest}
use Rattle.mxf_timed.proofs.coverage.Coverage.of.Goals as goal

pub invariant_of-result : goal.invariant_of-result
invariant_of-result c = record {
  of_runs = subst (λ (xs : List Span). IsPermutation xs c.sort_unstable_by_key.new.self.items) c.in_ok-spans.ensures
      c.sort_unstable_by_key.ensures.permutation;
  rising = IsNonDecreasingBy-from_sort (λ (s : Span). s.first) _
      (c.sort_unstable_by_key.ensures.sorted (λ (s : Span). s.first)
      (answers_always _ _ _ (λ f a r h k. search rules)));
  latest_are = c.in_ok-latest.ensures ∙ ap (latest_from no_latest) c.deref.ensures.value;
}
