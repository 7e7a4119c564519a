use Rattle.mxf_hand.proofs.RoundLaws as laws
use Rattle.mxf_hand.proofs.laws.rounds_close.Goals as goal

pub returns : goal.returns
returns c = laws.rounds_close
