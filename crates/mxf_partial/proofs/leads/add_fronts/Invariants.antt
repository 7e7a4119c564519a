-- What was added so far, with the sections to come.
use Rattle.std.proofs.Common.{◌≡◌, ◌++◌, drop, filter_map}
use Rattle.mxf_partial.specs.Fronts.{front_order}
use Rattle.mxf_partial.proofs.leads.add_fronts.Given as goal

abbrev pub invariant-loop-section : goal.invariant-loop-section
invariant-loop-section l = l.orders.items
    ++ filter_map (front_order l.fn.is_described l.section_orders.at l.section_orders.notes l.asked)
    (drop l.section-index l.sections) ≡ l.initial.orders.items ++ filter_map
    (front_order l.fn.is_described l.section_orders.at l.section_orders.notes l.asked) l.sections
