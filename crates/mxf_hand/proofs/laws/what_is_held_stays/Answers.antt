use Rattle.mxf_hand.proofs.HistoryLaws.{all_keep}
use Rattle.mxf_hand.proofs.laws.what_is_held_stays.Goals as goal

pub returns : goal.returns
returns c = all_keep
