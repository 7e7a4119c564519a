-- What is asked for of the places so far.
use Rattle.mxf_partial.specs.Named.{AreNamed}
use Rattle.mxf_partial.specs.NearTable.{AreNear}
use Rattle.mxf_partial.proofs.NearPlaces.{AsksFor}
use Rattle.mxf_partial.proofs.near.add_partitions.Given as goal

abbrev pub invariant-loop-place : goal.invariant-loop-place
invariant-loop-place l = (nm : AreNamed l.units.known.notes l.named) (are : AreNear l.units l.named l.near)
    → AsksFor l.units l.named l.near nm are l.places l.place-index l.found
