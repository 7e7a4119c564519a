use Rattle.std.proofs.Common.{subst, IsPermutation}
use Rattle.std.proofs.lemmas.List.Sorted.{IsNonDecreasingBy-from_sort}
use Rattle.mxf_verify.proofs.opposing.Opposing.of.Goals as goal

pub invariant_of-result : goal.invariant_of-result
invariant_of-result c = record {
  catalogue = c.laws.ensures.catalogue;
  starts_are = c.in_ok-starts.ensures;
  ends_are = subst (λ xs. IsPermutation xs c.sort_unstable.new.self.items) c.in_ok-ends.ensures c.sort_unstable.ensures.permutation;
  ends_rise = IsNonDecreasingBy-from_sort (λ x. x) _ c.sort_unstable.ensures.sorted;
}
