use Rattle.mxf_klv.proofs.StopLaws.{one_stop, one_stop_in, one_length_at}
use Rattle.mxf_klv.proofs.piece.each_piece_has_one_stop.Goals as goal

pub returns-clause-rest : goal.returns-clause-rest
returns-clause-rest c = one_stop

pub returns-clause-piece : goal.returns-clause-piece
returns-clause-piece c = one_stop_in

pub returns-clause-length : goal.returns-clause-length
returns-clause-length c = one_length_at
