use Rattle.mxf_hand.proofs.FileLaws.{of_one_file}
use Rattle.mxf_hand.proofs.laws.only_packets_of_the_file.Goals as goal

pub returns : goal.returns
returns c = of_one_file
