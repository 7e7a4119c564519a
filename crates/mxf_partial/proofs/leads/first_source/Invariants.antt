-- The first so far, with the places to come.
use Rattle.std.proofs.Common.{◌≡◌, None, drop, filter}
use Rattle.mxf_partial.specs.Fronts.{first_of, lies_between}
use Rattle.mxf_partial.proofs.leads.first_source.Given as goal

abbrev pub invariant-loop-place : goal.invariant-loop-place
invariant-loop-place l =
    first_of l.first (drop l.place-index l.places) ≡ first_of None (filter (lies_between l.fn.from l.fn.end) l.fn.asked)
