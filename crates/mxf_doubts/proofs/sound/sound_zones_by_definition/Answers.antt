use Rattle.mxf_doubts.proofs.SoundLaws.{in_sound_zone}
use Rattle.mxf_doubts.proofs.sound.sound_zones_by_definition.Goals as goal

pub returns : goal.returns
returns c = in_sound_zone
