use Rattle.mxf_skimmed.proofs.FindingLaws.{skim_has_the_same_findings}
use Rattle.mxf_skimmed.proofs.laws.skims_have_the_same_findings.Goals as goal

pub returns : goal.returns
returns c = skim_has_the_same_findings
