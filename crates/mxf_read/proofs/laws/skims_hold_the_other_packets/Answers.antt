use Rattle.mxf_read.proofs.SkimsAndReadings.{others_held}
use Rattle.mxf_read.proofs.laws.skims_hold_the_other_packets.Goals as goal

pub returns : goal.returns
returns c = others_held
