use Rattle.mxf_lines.proofs.VerifiedStatusLaws.{status_by_packets}
use Rattle.mxf_lines.proofs.printing.verification.whole_status_by_packets.Goals as goal

pub returns : goal.returns
returns c = status_by_packets
