use Rattle.mxf_skimmed.proofs.SavedLaws.{saved_itself}
use Rattle.mxf_skimmed.proofs.laws.saved_skims_say_nothing_new.Goals as goal

pub returns : goal.returns
returns c = saved_itself
