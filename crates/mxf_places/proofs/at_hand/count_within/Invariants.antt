-- The offsets so far, with those of the runs that are to come.
use Rattle.std.proofs.Common.{◌≡◌, ◌+◌}
use Rattle.mxf_places.proofs.CountLaws.{within}
use Rattle.mxf_places.proofs.at_hand.count_within.Given as goal

abbrev pub invariant-loop-run : goal.invariant-loop-run
invariant-loop-run l = l.count + within l.run-iterator l.start l.end ≡ within l.cover l.start l.end
