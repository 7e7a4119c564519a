-- What was added so far, with the runs to come.
use Rattle.mxf_views.proofs.Common.{◌≡◌, ◌++◌, Some, flat_map, map}
use Rattle.mxf_catalogue.specs.declared.run.Run.{Run}
use Rattle.mxf_places.specs.AtHand.{lacking}
use Rattle.mxf_partial.specs.Orders.{unit_order}
use Rattle.mxf_partial.proofs.plan.add_unit_orders.Given as goal

abbrev pub invariant-loop-run : goal.invariant-loop-run
invariant-loop-run l = l.orders.items
    ++ flat_map (λ (r : Run). map (unit_order l.at_hand) (lacking l.there r.start (Some r.end))) l.run-iterator
    ≡ l.initial.orders.items
    ++ flat_map (λ (r : Run). map (unit_order l.at_hand) (lacking l.there r.start (Some r.end))) l.wanted
