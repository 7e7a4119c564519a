-- The differences so far, with those that are to come.
use Rattle.mxf_views.proofs.Common.{◌≡◌, [], drop, AllByRecursion}
use Rattle.mxf_hand.specs.Differing.{IsDifference, with_all}
use Rattle.mxf_hand.proofs.given.differing.Differing.joined.Given as goal

abbrev pub invariant-loop-next : goal.invariant-loop-next
invariant-loop-next l = record {
  all : with_all l.joined (drop l.next-index l.next-items) ≡ with_all [] l.next-items;
  are : AllByRecursion IsDifference l.next-items;
}
