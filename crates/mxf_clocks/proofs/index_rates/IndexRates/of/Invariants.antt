-- What is kept of the segments so far, and the segments that are to come.
use Rattle.mxf_views.proofs.Common.{◌≡◌, ℕ, drop, list_all}
use Rattle.mxf_sets.specs.declared.record.rate.Rate.{Rate}
use Rattle.mxf_clocks.specs.TracksFor.{agrees}
use Rattle.mxf_clocks.proofs.RateTableLaws.{timed_yet}
use Rattle.mxf_clocks.proofs.index_rates.IndexRates.of.Given as goal

abbrev pub invariant-loop-segment : goal.invariant-loop-segment
invariant-loop-segment l = (index_sid : ℕ) (rate : Rate)
    → timed_yet l.rates.by_index (drop l.segment-index l.segments) index_sid rate
    ≡ list_all (agrees index_sid rate) l.segments
