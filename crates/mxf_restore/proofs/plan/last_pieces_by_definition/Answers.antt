use Rattle.mxf_restore.proofs.LastPieceLaws.{last_pieces}
use Rattle.mxf_restore.proofs.plan.last_pieces_by_definition.Goals as goal

pub returns : goal.returns
returns c at notes content given hand = last_pieces at notes content given hand
