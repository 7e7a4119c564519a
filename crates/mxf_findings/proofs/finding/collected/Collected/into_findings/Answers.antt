use Rattle.mxf_findings.proofs.Common.{finding_cmp-IsAntisymmetric}
use Rattle.mxf_findings.proofs.finding.collected.Collected.into_findings.Goals as goal

pub sort_once-requires : goal.sort_once-requires
sort_once-requires c = finding_cmp-IsAntisymmetric
