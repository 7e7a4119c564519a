use Rattle.std.proofs.Common.{◌≡◌, ◌++◌, drop}
use Rattle.mxf_restore.specs.Plan.{first_by_place}
use Rattle.mxf_restore.proofs.DisputedPlaceLaws.{unseen}
use Rattle.mxf_restore.proofs.disputed_place.first_by_place.Given as goal

abbrev pub invariant-loop-disputed_place : goal.invariant-loop-disputed_place
invariant-loop-disputed_place l =
    l.first.items ++ unseen l.seen.keys (first_by_place (drop l.disputed_place-index l.disputed_places))
    ≡ first_by_place l.disputed_places
