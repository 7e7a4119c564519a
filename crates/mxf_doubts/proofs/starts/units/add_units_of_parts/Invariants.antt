-- Those so far, and those of the parts to come.
use Rattle.std.proofs.Common.{◌≡◌, ◌++◌, drop, flat_map}
use Rattle.mxf_doubts.specs.UnitStarts.{units_of_part}
use Rattle.mxf_doubts.proofs.starts.units.add_units_of_parts.Given as goal

abbrev pub invariant-loop-part : goal.invariant-loop-part
invariant-loop-part l = l.units.items ++ flat_map (units_of_part l.offsets l.sized) (drop l.part-index l.parts)
    ≡ l.fn.units.items ++ flat_map (units_of_part l.offsets l.sized) l.fn.parts
