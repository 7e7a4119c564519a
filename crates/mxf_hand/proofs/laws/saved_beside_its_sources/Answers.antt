use Rattle.mxf_hand.proofs.HistoryLaws.{saved_again}
use Rattle.mxf_hand.proofs.laws.saved_beside_its_sources.Goals as goal

pub returns : goal.returns
returns c = saved_again
