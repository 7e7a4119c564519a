use Rattle.mxf_findings.proofs.FindingMembers.{findings_rise}
use Rattle.mxf_findings.proofs.FindingLaws.{findings_iff}
use Rattle.mxf_findings.proofs.finding.findings_by_definition.Goals as goal

pub returns-clause-findings : goal.returns-clause-findings
returns-clause-findings c = findings_iff

pub returns-clause-rising : goal.returns-clause-rising
returns-clause-rising c = findings_rise
