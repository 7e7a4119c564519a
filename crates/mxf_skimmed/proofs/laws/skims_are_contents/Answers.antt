use Rattle.mxf_skimmed.proofs.HeldLaws.{AreReduced-skim, IsCatalogue-skim, IsContent-skim}
use Rattle.mxf_skimmed.proofs.laws.skims_are_contents.Goals as goal

pub returns-clause-rising : goal.returns-clause-rising
returns-clause-rising c = IsContent-skim

pub returns-clause-notes : goal.returns-clause-notes
returns-clause-notes c = IsCatalogue-skim

pub returns-clause-reduced : goal.returns-clause-reduced
returns-clause-reduced c = AreReduced-skim
