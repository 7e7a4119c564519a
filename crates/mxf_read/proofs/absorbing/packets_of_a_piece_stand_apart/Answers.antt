use Rattle.mxf_read.proofs.Pieces.{IsContent-notes_in, AreApart-notes_in}
use Rattle.mxf_read.proofs.absorbing.packets_of_a_piece_stand_apart.Goals as goal

pub returns-clause-rising : goal.returns-clause-rising
returns-clause-rising c = IsContent-notes_in

pub returns-clause-apart : goal.returns-clause-apart
returns-clause-apart c = AreApart-notes_in
