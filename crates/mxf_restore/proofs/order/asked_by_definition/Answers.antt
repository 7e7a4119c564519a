use Rattle.mxf_restore.proofs.AskedLaws.{asked_law}
use Rattle.mxf_restore.proofs.order.asked_by_definition.Goals as goal

pub returns : goal.returns
returns c at notes p o content cover = asked_law at notes content cover p o
