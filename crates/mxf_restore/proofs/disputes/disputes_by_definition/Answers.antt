use Rattle.mxf_restore.proofs.DisputesLaws.{disputes-none, disputes-some}
use Rattle.mxf_restore.proofs.disputes.disputes_by_definition.Goals as goal

pub returns : goal.returns
returns c = record { some = disputes-some; none = disputes-none }
