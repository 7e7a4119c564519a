-- What was added so far, with the sections to come.
use Rattle.std.proofs.Common.{◌≡◌, ◌++◌, drop, flat_map}
use Rattle.mxf_partial.specs.Helping.{helping_of}
use Rattle.mxf_partial.proofs.leads.helping_orders.Given as goal

abbrev pub invariant-loop-section : goal.invariant-loop-section
invariant-loop-section l = l.orders.items
    ++ flat_map (helping_of l.fn.is_described l.section_orders.at l.section_orders.notes)
    (drop l.section-index l.sections)
    ≡ flat_map (helping_of l.fn.is_described l.section_orders.at l.section_orders.notes) l.sections
