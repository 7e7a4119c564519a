-- The last unit of the segments so far, with those that are to come.
use Rattle.mxf_views.specs.Places.{segments_of}
use Rattle.mxf_units.proofs.LastLaws.{HasPassed}
use Rattle.mxf_units.proofs.last.last_unit.Given as goal

abbrev pub invariant-loop-segment : goal.invariant-loop-segment
invariant-loop-segment l = HasPassed (segments_of l.views) l.segment-iterator l.index_sid l.last
