use Rattle.mxf_views.proofs.Common.{[], sym}
use Rattle.mxf_views.specs.WellFormed.{file_bytes}
use Rattle.mxf_views.proofs.FileBytes.{whole_piece}
use Rattle.mxf_views.proofs.whole_file.well_formed_files_are_read_whole.Goals as goal

pub returns-clause-packets : goal.returns-clause-packets
returns-clause-packets c = λ l w. sym (c.each_piece_is_read_one_way.ensures.one 0 (file_bytes l) l []
    (whole_piece c.packets_are_read_as_written.ensures.read_back l w)).0

pub returns-clause-rest : goal.returns-clause-rest
returns-clause-rest c = λ l w. sym (c.each_piece_is_read_one_way.ensures.one 0 (file_bytes l) l []
    (whole_piece c.packets_are_read_as_written.ensures.read_back l w)).1
