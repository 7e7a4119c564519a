use Rattle.mxf_skimmed.proofs.DoubtLaws.{skim_has_the_same_doubts}
use Rattle.mxf_skimmed.proofs.laws.skims_have_the_same_doubts.Goals as goal

pub returns : goal.returns
returns c = skim_has_the_same_doubts
