use Rattle.mxf_klv.proofs.LengthLemmas.{one_reading}
use Rattle.mxf_klv.proofs.ber.one_length_at_front.Goals as goal

pub returns : goal.returns
returns c = one_reading
