use Rattle.mxf_klv.proofs.Common.{◌∙◌, ap, map, subst, sym, IsTrue, List, ℕ, IsNonDecreasingBy-from_sort}
use Rattle.mxf_klv.proofs.Common.{AllByRecursion, In}
use Rattle.std.proofs.Common.{IsPermutation}
use Rattle.mxf_readings.specs.Holdings.{HoldingParts, sources_alone}
use Rattle.mxf_readings.proofs.AloneLaws.{whole_held}
use Rattle.mxf_readings.proofs.readings.Readings.of.Goals as goal

pub sources_alone-requires-clause-whole : goal.sources_alone-requires-clause-whole
sources_alone-requires-clause-whole c =
    subst (λ (hs : List HoldingParts). AllByRecursion (λ h. IsTrue h.note.whole → In h.note c.in_ok-all.all) hs)
    (sym c.deref-2.ensures.value)
    (whole_held c.args.contents.now c.in_ok-holdings.holdings.items c.in_ok-all.all c.in_ok-holdings.ensures c.in_ok-all.ensures)

pub invariant_of-result : goal.invariant_of-result
invariant_of-result c = (
  c.in_ok-all.ensures,
  c.in_ok-holdings.ensures,
  c.in_ok-sources.ensures
      ∙ ap (λ (hs : List HoldingParts). map (λ (h : HoldingParts). h.source) hs) c.deref.ensures.value,
  record {
    members = subst (λ (ks : List ℕ). IsPermutation ks c.sort_unstable.new.self.items)
        (c.in_ok-alone.ensures ∙ ap (sources_alone c.in_ok-all.all) c.deref-2.ensures.value) c.sort_unstable.ensures.permutation;
    rising = IsNonDecreasingBy-from_sort (λ x. x) _ c.sort_unstable.ensures.sorted;
  },
)
