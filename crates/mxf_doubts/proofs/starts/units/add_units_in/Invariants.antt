-- Those so far, and those at the packets to come.
use Rattle.std.proofs.Common.{◌≡◌, ◌++◌, drop, filter}
use Rattle.mxf_doubts.specs.UnitStarts.{is_in_zone, units_at}
use Rattle.mxf_doubts.proofs.starts.units.add_units_in.Given as goal

abbrev pub invariant-loop-offset : goal.invariant-loop-offset
invariant-loop-offset l = l.units.items ++ units_at (drop l.offset-index l.offset-items) l.zone l.stream
    ≡ l.fn.units.items ++ units_at (filter (is_in_zone l.zone) l.offsets) l.zone l.stream
