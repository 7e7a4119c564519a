-- The places so far, each with its streams.
use Rattle.mxf_views.proofs.Common.{List, NoteParts}
use Rattle.mxf_partial.specs.NearTable.{AreListed}
use Rattle.mxf_partial.proofs.PlaceLaws.{Placed}
use Rattle.mxf_partial.proofs.place_streams.of_streams.Given as goal

abbrev pub invariant-loop-place : goal.invariant-loop-place
invariant-loop-place l =
    (notes : List NoteParts) → AreListed notes l.listed → Placed notes l.places l.place-index l.items.items
