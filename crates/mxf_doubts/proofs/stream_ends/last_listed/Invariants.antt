-- The greatest so far, with the offsets of the units that are to come.
use Rattle.mxf_views.proofs.Common.{◌≡◌, ◌-◌, ◌<◌, ◌^◌, IfSome, None, filter_map, range_with_len, stream_offset}
use Rattle.mxf_doubts.specs.StreamEnds.{greatest_of}
use Rattle.mxf_doubts.proofs.stream_ends.last_listed.Given as goal

abbrev pub invariant-loop-unit : goal.invariant-loop-unit
invariant-loop-unit l = record {
  offset : greatest_of l.greatest (filter_map (stream_offset l.segment) (range_with_len l.unit (l.end - l.unit)))
      ≡ greatest_of None (filter_map (stream_offset l.segment) (range_with_len l.start (l.end - l.start)));
  small : IfSome l.greatest (λ offset. offset < 2 ^ 96);
}
