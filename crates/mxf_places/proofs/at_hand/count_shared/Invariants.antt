-- The offsets so far, with those of the runs that are to come.
use Rattle.std.proofs.Common.{◌≡◌, ◌+◌}
use Rattle.mxf_places.specs.AtHand.{has_offset}
use Rattle.mxf_places.proofs.CountLaws.{passing}
use Rattle.mxf_places.proofs.at_hand.count_shared.Given as goal

abbrev pub invariant-loop-run : goal.invariant-loop-run
invariant-loop-run l =
    l.count + passing (has_offset l.hand) l.run-iterator 0 l.end ≡ passing (has_offset l.hand) l.cover 0 l.end
