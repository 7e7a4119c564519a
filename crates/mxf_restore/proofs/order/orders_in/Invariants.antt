use Rattle.std.proofs.Common.{◌≡◌, ◌++◌, drop, flat_map}
use Rattle.mxf_restore.specs.Plan.{orders_of}
use Rattle.mxf_restore.proofs.order.orders_in.Given as goal

abbrev pub invariant-loop-section : goal.invariant-loop-section
invariant-loop-section l =
    l.orders.items ++ flat_map (orders_of l.section_orders.at l.section_orders.notes) (drop l.section-index l.sections)
    ≡ flat_map (orders_of l.section_orders.at l.section_orders.notes) l.sections
