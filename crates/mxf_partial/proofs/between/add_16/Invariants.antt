-- What was there before, and the places so far.
use Rattle.mxf_views.proofs.Common.{◌≡◌, ◌↔◌, ◌⊎◌, ◌*◌, ◌/◌, ◌<◌, ℕ, Some, length, slice_get, In}
use Rattle.mxf_restore.specs.declared.named.NamedPlace.{NamedPlace}
use Rattle.mxf_partial.proofs.between.add_16.Given as goal

abbrev pub invariant-loop-i : goal.invariant-loop-i
invariant-loop-i l = (n : NamedPlace) → In n l.asked.items ↔ (In n l.initial.asked.items
    ⊎ ((j : ℕ) × (j < l.i) × (slice_get l.places (j * length l.places / 16) ≡ Some n)))
