use Rattle.mxf_restore.proofs.FrontLaws.{front_law}
use Rattle.mxf_restore.proofs.order.fronts_by_definition.Goals as goal

pub returns : goal.returns
returns c at notes p o content given hand = front_law at notes p o content given hand
