use Rattle.mxf_skimmed.proofs.WholeFileLaws.{whole_skim}
use Rattle.mxf_skimmed.proofs.laws.skims_of_whole_files_are_read_from_the_front.Goals as goal

pub returns : goal.returns
returns c = whole_skim
