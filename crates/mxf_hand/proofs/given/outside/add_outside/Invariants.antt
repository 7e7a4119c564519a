-- The offsets so far, with those from where one has come to.
use Rattle.mxf_views.proofs.Common.{◌≡◌, Some, filter, is_between}
use Rattle.mxf_hand.specs.Outside.{with_outside}
use Rattle.mxf_hand.proofs.given.outside.add_outside.Given as goal

abbrev pub invariant-loop-hole : goal.invariant-loop-hole
invariant-loop-hole l = with_outside l.outside l.reached l.run.end l.hole-iterator
    ≡ with_outside l.fn.outside l.run.start l.run.end (filter (is_between l.run.start (Some l.run.end)) l.holes)
