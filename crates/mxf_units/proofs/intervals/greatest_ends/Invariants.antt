-- The ends so far, with those of the intervals to come.
use Rattle.std.proofs.Common.{◌≡◌, ◌++◌, drop}
use Rattle.mxf_units.specs.Intervals.{greatest_ends}
use Rattle.mxf_units.proofs.intervals.greatest_ends.Given as goal

abbrev pub invariant-loop-interval : goal.invariant-loop-interval
invariant-loop-interval g l =
    l.ends.items ++ greatest_ends g.T.Interval.end l.greatest (drop l.interval-index l.intervals)
    ≡ greatest_ends g.T.Interval.end 0 l.intervals
