use Rattle.mxf_tracks.proofs.TimecodeLaws.{timecode_is}
use Rattle.mxf_tracks.proofs.timecode.each_number_has_its_label.Goals as goal

pub returns : goal.returns
returns c = timecode_is
