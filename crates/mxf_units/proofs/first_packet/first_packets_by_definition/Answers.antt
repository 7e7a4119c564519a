use Rattle.mxf_units.proofs.LimitLaws.{first-says}
use Rattle.mxf_units.proofs.first_packet.first_packets_by_definition.Goals as goal

pub returns : goal.returns
returns c notes p n content = first-says notes content p n
