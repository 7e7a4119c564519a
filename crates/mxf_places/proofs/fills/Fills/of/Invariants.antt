-- The fills that are left come before those that the table goes over.
use Rattle.mxf_views.proofs.Common.{◌≡◌, ◌++◌, ℕ, List, length, undisputed_notes}
use Rattle.mxf_places.specs.Fills.{fills_among, over_in, over_list}
use Rattle.mxf_places.specs.declared.fills.Fill.{Fill}
use Rattle.mxf_places.proofs.fills.Fills.of.Given as goal

abbrev pub invariant-loop-fill : goal.invariant-loop-fill
invariant-loop-fill l = (done : List Fill) × (l.fills.items ++ done ≡ fills_among (undisputed_notes l.catalogue))
    × ((x : ℕ) → over_in l.ends x ≡ over_list done x)

abbrev pub decreases-loop-fill : goal.decreases-loop-fill
decreases-loop-fill l = length l.fills.items
