-- What was added so far, with the limits to come.
use Rattle.std.proofs.Common.{◌≡◌, ◌++◌, drop, filter_map}
use Rattle.mxf_partial.specs.Named.{named_at}
use Rattle.mxf_partial.proofs.asks.add_limits.Given as goal

abbrev pub invariant-loop-limit : goal.invariant-loop-limit
invariant-loop-limit l = l.asked.items ++ filter_map (named_at l.named) (drop l.limit-index l.limits)
    ≡ l.initial.asked.items ++ filter_map (named_at l.named) l.limits
