use Rattle.mxf_klv.proofs.RoundTrips.{packet_read_back, packet_written_back}
use Rattle.mxf_klv.proofs.packet.packets_are_read_as_written.Goals as goal

pub returns-clause-read_back : goal.returns-clause-read_back
returns-clause-read_back c = packet_read_back

pub returns-clause-written_back : goal.returns-clause-written_back
returns-clause-written_back c = packet_written_back
