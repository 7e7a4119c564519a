-- The spans so far, with those of the extents that are to come.
use Rattle.std.proofs.Common.{◌≡◌, ◌++◌, drop}
use Rattle.mxf_hand.specs.Places.{spans_from}
use Rattle.mxf_hand.proofs.given.placing.spans_in_turn.Given as goal

abbrev pub invariant-loop-source : goal.invariant-loop-source
invariant-loop-source l = l.spans.items ++ spans_from l.source (drop l.source l.extents) ≡ spans_from 0 l.extents
