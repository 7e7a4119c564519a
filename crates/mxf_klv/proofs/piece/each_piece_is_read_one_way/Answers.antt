use Rattle.mxf_klv.proofs.PieceLaws.{some_piece, one_piece}
use Rattle.mxf_klv.proofs.piece.each_piece_is_read_one_way.Goals as goal

pub returns-clause-some : goal.returns-clause-some
returns-clause-some c = some_piece

pub returns-clause-one : goal.returns-clause-one
returns-clause-one c = one_piece
