use Rattle.std.proofs.Common.{◌<◌, ◌≤◌}
use Rattle.mxf_verify.proofs.reading.Reading.even_room.Given as goal

abbrev pub invariant-places : goal.invariant-places
invariant-places l = (0 < l.even) × (l.even ≤ l.fn.room) × (l.values ≤ 256)
