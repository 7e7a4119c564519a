use Rattle.mxf_sets.proofs.SegmentRoundTrip.{segment_read_back}
use Rattle.mxf_sets.proofs.segment.segments_are_read_as_written.Goals as goal

pub returns : goal.returns
returns c = segment_read_back
