-- What was added so far, with the parts to come.
use Rattle.mxf_views.proofs.Common.{◌↔◌, ◌⊎◌, drop, In}
use Rattle.mxf_restore.specs.declared.named.NamedPlace.{NamedPlace}
use Rattle.mxf_units.specs.Units.{UnitsParts}
use Rattle.mxf_partial.specs.InStreams.{IsInOrder}
use Rattle.mxf_partial.specs.StreamTable.{AreStreams}
use Rattle.mxf_partial.specs.Ways.{HasWay}
use Rattle.mxf_partial.proofs.ways.add_ways_of.Given as goal

abbrev pub invariant-loop-part : goal.invariant-loop-part
invariant-loop-part l =
    (u : UnitsParts) → AreStreams u l.streams → IsInOrder (λ p. p.body_sid) (λ p. p.offset) (λ p. 0) l.places
    → (n : NamedPlace) → (In n l.asked.items ⊎ HasWay u.known.notes l.holdings l.places (drop l.part-index l.parts) n)
    ↔ (In n l.initial.asked.items ⊎ HasWay u.known.notes l.holdings l.places l.parts n)
