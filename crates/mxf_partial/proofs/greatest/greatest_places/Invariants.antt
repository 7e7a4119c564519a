-- The greatest offsets of the segments so far, with those that are to come.
use Rattle.mxf_partial.proofs.GreatestLaws.{Passed}
use Rattle.mxf_partial.proofs.greatest.greatest_places.Given as goal

abbrev pub invariant-loop-segment : goal.invariant-loop-segment
invariant-loop-segment l = Passed l.units l.places.items l.segment-iterator
