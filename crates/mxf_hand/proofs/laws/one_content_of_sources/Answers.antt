use Rattle.mxf_hand.proofs.SameBytes as laws
use Rattle.mxf_hand.proofs.laws.one_content_of_sources.Goals as goal

pub returns : goal.returns
returns c = record { order = laws.in_any_order; one = laws.one_together }
