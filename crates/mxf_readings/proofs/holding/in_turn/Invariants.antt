-- What is there and the notes of the sources to come are those of all sources.
use Rattle.std.proofs.Common.{◌≡◌, ◌+◌, ◌++◌, drop}
use Rattle.mxf_readings.specs.Holdings.{holdings_from}
use Rattle.mxf_readings.proofs.holding.in_turn.Given as goal

abbrev pub invariant-loop-at : goal.invariant-loop-at
invariant-loop-at l = l.holdings.items ++ holdings_from (l.at + 1) (drop l.at l.contents) ≡ holdings_from 1 l.contents
