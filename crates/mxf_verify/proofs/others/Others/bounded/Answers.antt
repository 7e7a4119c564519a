use Rattle.mxf_views.proofs.Common.{◌∙◌, ap, map, subst, sym, map-map, IsNonDecreasingBy-from_sort, NoteParts}
use Rattle.mxf_views.proofs.Common.{covered_end}
use Rattle.std.proofs.Common.{IsPermutation}
use denote.Bor.{Bor}
use Rattle.mxf_verify.proofs.others.Others.bounded.Goals as goal

pub invariant_of-result : goal.invariant_of-result
invariant_of-result c = record {
  catalogue = c.requires;
  starts_are = c.in_ok-starts.ensures ∙ ap (map (λ (r : Bor NoteParts). r.now.offset)) c.deref.ensures.value
      ∙ sym (map-map (λ (n : NoteParts). n.offset) (λ (r : Bor NoteParts). r.now) _);
  ends_are = subst (λ xs. IsPermutation xs c.sort_unstable.new.self.items)
      (c.in_ok-ends.ensures ∙ ap (map (λ (r : Bor NoteParts). covered_end r.now)) c.deref-2.ensures.value
      ∙ sym (map-map covered_end (λ (r : Bor NoteParts). r.now) _))
      c.sort_unstable.ensures.permutation;
  ends_rise = IsNonDecreasingBy-from_sort (λ x. x) _ c.sort_unstable.ensures.sorted;
}
