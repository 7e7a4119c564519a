-- The places so far at positions of the table.
use Rattle.mxf_views.proofs.Common.{◌↔◌, ◌⊎◌, In}
use Rattle.mxf_restore.specs.declared.named.NamedPlace.{NamedPlace}
use Rattle.mxf_partial.proofs.NearLaws.{IsFoundBefore}
use Rattle.mxf_partial.proofs.near.add_at.Given as goal

abbrev pub invariant-loop-index : goal.invariant-loop-index
invariant-loop-index l = (n : NamedPlace) → In n l.asked.items
    ↔ (In n l.initial.asked.items ⊎ IsFoundBefore l.items l.positions l.index n)
