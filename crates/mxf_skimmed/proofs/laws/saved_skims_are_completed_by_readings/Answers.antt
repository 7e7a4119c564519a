use Rattle.mxf_skimmed.proofs.SavedLaws.{saved_beside}
use Rattle.mxf_skimmed.proofs.laws.saved_skims_are_completed_by_readings.Goals as goal

pub returns : goal.returns
returns c = saved_beside
