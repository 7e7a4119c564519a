use Rattle.mxf_sets.proofs.RipLaws.{one_rip_read}
use Rattle.mxf_sets.proofs.pack.random_index.one_rip_reading.Goals as goal

pub returns : goal.returns
returns c = one_rip_read
