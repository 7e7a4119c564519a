use Rattle.mxf_restore.proofs.OrderStarts.{one_order_there}
use Rattle.mxf_restore.proofs.plan.starts_are_apart.Goals as goal

pub returns : goal.returns
returns c at notes o r content cover = one_order_there at notes content cover o r
