-- The overlaps so far, with those of the spans that are to come.
use Rattle.std.proofs.Common.{◌≡◌, ◌++◌, drop}
use Rattle.mxf_hand.specs.Places.{overlaps_below}
use Rattle.mxf_hand.proofs.given.placing.overlaps_of.Given as goal

abbrev pub invariant-loop-span : goal.invariant-loop-span
invariant-loop-span l =
    l.overlaps.items ++ overlaps_below l.reached (drop l.span-index l.spans) ≡ overlaps_below 0 l.spans
