-- Those so far, and those of the segments to come.
use Rattle.std.proofs.Common.{◌≡◌, ◌++◌, flat_map}
use Rattle.mxf_views.specs.Places.{segments_of}
use Rattle.mxf_doubts.specs.UnitStarts.{borders_of}
use Rattle.mxf_doubts.proofs.starts.units.add_all_borders.Given as goal

abbrev pub invariant-loop-segment : goal.invariant-loop-segment
invariant-loop-segment l = l.units.items ++ flat_map borders_of l.segment-iterator
    ≡ l.fn.units.items ++ flat_map borders_of (segments_of l.views)
