-- The ranges so far, with any that go on from there, are all ranges.
use Rattle.std.proofs.Common.{◌-◌, ◌++◌, List}
use Rattle.mxf_map.specs.Extents.{AreExtents, standing_at}
use Rattle.mxf_map.specs.declared.extent.MapExtent.{MapExtent}
use Rattle.mxf_map.proofs.extent.extents_below.Given as goal

abbrev pub invariant-loop-from : goal.invariant-loop-from
invariant-loop-from l = (rest : List MapExtent) → AreExtents (standing_at l.standings) l.end l.from rest
    → AreExtents (standing_at l.standings) l.end 0 (l.extents.items ++ rest)

abbrev pub decreases-loop-from : goal.decreases-loop-from
decreases-loop-from l = l.end - l.from
