use Rattle.mxf_tracks.proofs.LengthLaws.{length-is}
use Rattle.mxf_tracks.proofs.length.lengths_by_definition.Goals as goal

pub returns : goal.returns
returns c = length-is
