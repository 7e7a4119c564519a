use Rattle.mxf_hand.proofs.SettlingLaws.{whole-says}
use Rattle.mxf_hand.proofs.settling.whole_stops_by_definition.Goals as goal

pub returns : goal.returns
returns c = whole-says
