-- The offsets so far, with those of the places that are to come.
use Rattle.mxf_views.proofs.Common.{◌≡◌, [], drop, map, union_of_runs}
use Rattle.mxf_hand.specs.Places.{run_of}
use Rattle.mxf_hand.proofs.given.placing.cover_of.Given as goal

abbrev pub invariant-loop-place : goal.invariant-loop-place
invariant-loop-place l =
    union_of_runs l.cover (map run_of (drop l.place-index l.places)) ≡ union_of_runs [] (map run_of l.places)
