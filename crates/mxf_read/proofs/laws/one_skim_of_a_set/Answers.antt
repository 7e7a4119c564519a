use Rattle.mxf_read.proofs.SkimsAndReadings.{one_skim}
use Rattle.mxf_read.proofs.laws.one_skim_of_a_set.Goals as goal

pub returns : goal.returns
returns c = one_skim
