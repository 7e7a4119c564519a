-- The sources so far, with those of the holdings to come.
use Rattle.std.proofs.Common.{◌≡◌, ◌&&◌, ◌++◌, drop, filter, map}
use Rattle.mxf_readings.specs.Holdings.{is_only, sources_alone}
use Rattle.mxf_readings.specs.Readings.{is_held}
use Rattle.mxf_readings.proofs.readings.sources_alone.Given as goal

abbrev pub invariant-loop-at : goal.invariant-loop-at
invariant-loop-at l = l.sources.items ++ map (λ h. h.source)
    (filter (λ h. is_only l.holdings h && is_held h.note l.all) (drop l.at l.holdings)) ≡ sources_alone l.all l.holdings
