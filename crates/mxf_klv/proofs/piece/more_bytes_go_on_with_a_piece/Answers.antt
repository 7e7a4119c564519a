use Rattle.mxf_klv.proofs.MoreBytes.{seam, stop_stays}
use Rattle.mxf_klv.proofs.piece.more_bytes_go_on_with_a_piece.Goals as goal

pub returns-clause-packets : goal.returns-clause-packets
returns-clause-packets c offset bytes more = (seam offset bytes more).packets

pub returns-clause-rest : goal.returns-clause-rest
returns-clause-rest c offset bytes more = (seam offset bytes more).rest

pub returns-clause-stop : goal.returns-clause-stop
returns-clause-stop c = stop_stays
