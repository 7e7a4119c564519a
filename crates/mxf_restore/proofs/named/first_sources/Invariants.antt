-- The places that are left come before those that the table was made of.
use Rattle.std.proofs.Common.{◌≡◌, ◌++◌, List, length}
use Rattle.mxf_restore.specs.NamedPlaces.{AreFirst}
use Rattle.mxf_restore.specs.declared.named.NamedPlace.{NamedPlace}
use Rattle.mxf_restore.proofs.named.first_sources.Given as goal

abbrev pub invariant-loop-named : goal.invariant-loop-named
invariant-loop-named l =
    (done : List NamedPlace) × (l.places.items ++ done ≡ l.fn.places.items) × AreFirst done l.sources.entries

abbrev pub decreases-loop-named : goal.decreases-loop-named
decreases-loop-named l = length l.places.items
