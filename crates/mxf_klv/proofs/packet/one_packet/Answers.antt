use Rattle.mxf_klv.proofs.PacketLemmas.{same_packet}
use Rattle.mxf_klv.proofs.packet.one_packet.Goals as goal

pub returns : goal.returns
returns c = same_packet
