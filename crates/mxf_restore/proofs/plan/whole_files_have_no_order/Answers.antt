use Rattle.mxf_restore.proofs.WholeFileOrders.{no_orders}
use Rattle.mxf_restore.proofs.plan.whole_files_have_no_order.Goals as goal

pub returns : goal.returns
returns c = no_orders
