use Rattle.mxf_restore.proofs.OrderStarts.{nothing_left_out}
use Rattle.mxf_restore.proofs.plan.orders_where_nothing_is_at_hand.Goals as goal

pub returns : goal.returns
returns c notes p content = nothing_left_out notes content p
