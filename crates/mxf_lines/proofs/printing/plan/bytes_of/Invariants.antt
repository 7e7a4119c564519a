-- The bytes so far, with those of the orders that are to come; each order has fewer than 2^64.
use Rattle.std.proofs.Common.{◌≡◌, ◌+◌, ◌*◌, ◌^◌, ◌≤◌, drop, sum_by}
use Rattle.mxf_lines.specs.PlanLines.{ordered_bytes}
use Rattle.mxf_lines.proofs.printing.plan.bytes_of.Given as goal

abbrev pub invariant-loop-order : goal.invariant-loop-order
invariant-loop-order l = (l.bytes + sum_by ordered_bytes (drop l.order-index l.orders) ≡ sum_by ordered_bytes l.orders)
    × (l.bytes ≤ l.order-index * 2 ^ 64)
