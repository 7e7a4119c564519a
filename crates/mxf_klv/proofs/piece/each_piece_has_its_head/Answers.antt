use Rattle.mxf_klv.proofs.CutHeads.{heads_at-stands, cut_stops}
use Rattle.mxf_klv.proofs.piece.each_piece_has_its_head.Goals as goal

pub returns-clause-head : goal.returns-clause-head
returns-clause-head c = heads_at-stands

pub returns-clause-truncated : goal.returns-clause-truncated
returns-clause-truncated c = cut_stops
