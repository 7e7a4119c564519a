use Rattle.mxf_progress.proofs.NoOrders.{no_orders_by_holes, no_orders_say}
use Rattle.mxf_progress.proofs.laws.nothing_is_ordered_where_nothing_lacks.Goals as goal

pub returns : goal.returns
returns c = record { sections = no_orders_say; holes = no_orders_by_holes }
