-- Those so far, and those of the segments to come.
use Rattle.std.proofs.Common.{◌≡◌, ◌++◌, flat_map}
use Rattle.mxf_views.specs.Places.{segments_of}
use Rattle.mxf_doubts.specs.UnitStarts.{listed_in}
use Rattle.mxf_doubts.proofs.starts.units.listed_in.Given as goal

abbrev pub invariant-loop-segment : goal.invariant-loop-segment
invariant-loop-segment l = l.units.items ++ flat_map listed_in l.segment-iterator ≡ flat_map listed_in (segments_of l.views)
