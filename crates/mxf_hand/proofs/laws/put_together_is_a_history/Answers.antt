use Rattle.mxf_hand.proofs.HistoryLaws.{history}
use Rattle.mxf_hand.proofs.laws.put_together_is_a_history.Goals as goal

pub returns : goal.returns
returns c = history
