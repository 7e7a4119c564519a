use Rattle.mxf_sets.proofs.PackLaws.{one_pack_read}
use Rattle.mxf_sets.proofs.pack.partition.one_pack_reading.Goals as goal

pub returns : goal.returns
returns c = one_pack_read
