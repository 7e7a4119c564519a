use Rattle.mxf_views.proofs.SegmentLaws.{segments_are, segments_rise}
use Rattle.mxf_views.proofs.index.segments_by_definition.Goals as goal

pub returns : goal.returns
returns c = record { segments = segments_are; rising = segments_rise }
