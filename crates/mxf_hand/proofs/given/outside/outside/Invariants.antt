-- The offsets so far, with those of the runs that are to come.
use Rattle.mxf_views.proofs.Common.{◌≡◌, [], AllByRecursion, IsRun}
use Rattle.mxf_hand.specs.Outside.{with_all_outside}
use Rattle.mxf_hand.proofs.given.outside.outside.Given as goal

abbrev pub invariant-loop-run : goal.invariant-loop-run
invariant-loop-run l = record {
  all : with_all_outside l.outside l.run-iterator l.holes ≡ with_all_outside [] l.cover l.holes;
  are : AllByRecursion IsRun l.run-iterator;
}
