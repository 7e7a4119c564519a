use Rattle.mxf_verify.proofs.WholeLaws.{whole_says}
use Rattle.mxf_verify.proofs.laws.a_whole_reference_is_verified_by_its_packets.Goals as goal

pub returns : goal.returns
returns c = whole_says
