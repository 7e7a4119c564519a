-- The offsets so far, with those of the differences that are to come.
use Rattle.mxf_views.proofs.Common.{◌≡◌, [], drop, map, AllByRecursion, union_of_runs}
use Rattle.mxf_hand.specs.Differing.{IsDifference, run_of_difference}
use Rattle.mxf_hand.proofs.given.differing.Differing.cover.Given as goal

abbrev pub invariant-loop-difference : goal.invariant-loop-difference
invariant-loop-difference l = record {
  all : union_of_runs l.cover (map run_of_difference (drop l.difference-index l.difference-items))
      ≡ union_of_runs [] (map run_of_difference l.difference-items);
  are : AllByRecursion IsDifference l.difference-items;
}
