use Rattle.mxf_tracks.proofs.TimecodeLaws.{number_below, one_label}
use Rattle.mxf_tracks.proofs.timecode.each_label_has_its_number.Goals as goal

pub returns-clause-one : goal.returns-clause-one
returns-clause-one c = one_label

pub returns-clause-within : goal.returns-clause-within
returns-clause-within c = number_below
