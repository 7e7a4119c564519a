-- The places so far, with those of the spans that are to come.
use Rattle.std.proofs.Common.{◌≡◌, ◌++◌, drop}
use Rattle.mxf_hand.specs.Places.{places_above}
use Rattle.mxf_hand.proofs.given.placing.places_of.Given as goal

abbrev pub invariant-loop-span : goal.invariant-loop-span
invariant-loop-span l = l.places.items ++ places_above l.reached (drop l.span-index l.spans) ≡ places_above 0 l.spans
