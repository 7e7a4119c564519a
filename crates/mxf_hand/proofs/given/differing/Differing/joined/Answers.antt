use Rattle.mxf_views.proofs.Common.{List, ap, subst, sym, AllByRecursion}
use Rattle.mxf_hand.specs.Differing.{IsDifference, with_all}
use Rattle.mxf_hand.specs.declared.given.differing.Difference.{Difference}
use Rattle.mxf_hand.proofs.DifferingLaws.{all_permuted}
use Rattle.mxf_hand.proofs.given.differing.Differing.joined.Goals as goal

pub loop-next-init : goal.loop-next-init
loop-next-init c =
    let sorted = c.deref-next-items.result.now in record {
      all = ap (λ (ds : List Difference). with_all ds sorted) c.new-joined.ensures;
      are = subst (AllByRecursion IsDifference) (sym c.deref-next-items.ensures.value)
          (all_permuted IsDifference c.self.inside.noted.items _ c.sort_by_first.ensures.members c.self.invariant);
    }
