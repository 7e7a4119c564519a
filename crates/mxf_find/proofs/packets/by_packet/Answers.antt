use Rattle.mxf_find.specs.PacketOrder.{packet_cmp-IsAntisymmetric}
use Rattle.mxf_find.proofs.PacketRuns.{sorted_packets}
use Rattle.mxf_find.proofs.packets.by_packet.Goals as goal

pub sort_once-requires : goal.sort_once-requires
sort_once-requires c = packet_cmp-IsAntisymmetric

pub returns : goal.returns
returns c = sorted_packets _ _ _ c.in_ok-packets.ensures c.sort_once.ensures.members c.sort_once.ensures.rising
