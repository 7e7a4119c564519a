-- What was seen, with the entries of the segments that are to come.
use Rattle.mxf_views.proofs.Common.{◌≡◌, drop, filter_map, index_entry}
use Rattle.mxf_units.specs.Streams.{entry_of, only_entry}
use Rattle.mxf_units.proofs.segments.entry_of.Given as goal

abbrev pub invariant-loop-segment : goal.invariant-loop-segment
invariant-loop-segment l =
    only_entry l.seen (filter_map (λ s. index_entry s.segment l.unit) (drop l.segment-index l.segments))
    ≡ entry_of l.segments l.unit
