use Rattle.mxf_hand.proofs.WholeFileLaws.{whole_file}
use Rattle.mxf_hand.proofs.laws.the_whole_file_is_put_together.Goals as goal

pub returns : goal.returns
returns c = whole_file
