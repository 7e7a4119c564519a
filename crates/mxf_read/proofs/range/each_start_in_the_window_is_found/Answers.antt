use Rattle.mxf_read.proofs.WindowLaws.{first_begins, no_piece, piece_begins, start_found}
use Rattle.mxf_read.proofs.range.each_start_in_the_window_is_found.Goals as goal

pub returns-clause-begins : goal.returns-clause-begins
returns-clause-begins c = piece_begins

pub returns-clause-none : goal.returns-clause-none
returns-clause-none c = no_piece

pub returns-clause-found : goal.returns-clause-found
returns-clause-found c = start_found

pub returns-clause-first : goal.returns-clause-first
returns-clause-first c = first_begins
