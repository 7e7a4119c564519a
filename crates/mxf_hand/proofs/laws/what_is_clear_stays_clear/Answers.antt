use Rattle.mxf_hand.proofs.ClearLaws.{clear_together}
use Rattle.mxf_hand.proofs.laws.what_is_clear_stays_clear.Goals as goal

pub returns : goal.returns
returns c = clear_together
