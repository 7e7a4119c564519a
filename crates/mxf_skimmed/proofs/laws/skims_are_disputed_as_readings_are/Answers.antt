use Rattle.mxf_skimmed.proofs.HeldLaws.{clear_skim, disputed_same, disputed_skim}
use Rattle.mxf_skimmed.proofs.WholeFileLaws.{none_alike}
use Rattle.mxf_skimmed.proofs.laws.skims_are_disputed_as_readings_are.Goals as goal

pub returns-clause-each : goal.returns-clause-each
returns-clause-each c = λ saved notes n apart there. disputed_same saved notes apart n there

pub returns-clause-disputed : goal.returns-clause-disputed
returns-clause-disputed c = disputed_skim

pub returns-clause-clear : goal.returns-clause-clear
returns-clause-clear c = clear_skim

pub returns-clause-undisputed : goal.returns-clause-undisputed
returns-clause-undisputed c = none_alike
