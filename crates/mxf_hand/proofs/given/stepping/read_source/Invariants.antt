-- What the sources give stays, and so does the room's length.
use Rattle.std.proofs.Common.{◌≡◌, ◌-◌, ◌≤◌}
use Rattle.mxf_hand.proofs.given.stepping.read_source.Given as goal

abbrev pub invariant-reads : goal.invariant-reads
invariant-reads g l = (g.S.Sources.told l.sources ≡ g.S.Sources.told l.initial.sources) × (l.interruptions ≤ 1024)

abbrev pub decreases-reads : goal.decreases-reads
decreases-reads g l = 1024 - l.interruptions
