-- The ranges so far, with those from where one has come to.
use Rattle.std.proofs.Common.{◌≡◌, ◌++◌}
use Rattle.mxf_places.specs.AtHand.{lacking}
use Rattle.mxf_places.proofs.at_hand.ranges_lacking.Given as goal

abbrev pub invariant-loop-run : goal.invariant-loop-run
invariant-loop-run l = l.ranges.items ++ lacking l.run-iterator l.reached l.end ≡ lacking l.cover l.start l.end
