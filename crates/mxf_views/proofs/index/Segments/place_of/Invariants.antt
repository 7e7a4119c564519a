use Rattle.mxf_views.proofs.Common.{◌≡◌, List, [], IsRising, place_cmp, place_by, places_with}
use Rattle.mxf_views.specs.declared.index.place.StreamPlace.{StreamPlace}
use Rattle.mxf_views.proofs.index.Segments.place_of.Given as goal

-- the places so far, and with those to come
abbrev pub invariant-loop-segment : goal.invariant-loop-segment
invariant-loop-segment l = (places : List StreamPlace)
    × (places_with places l.index_sid l.unit l.segment-iterator ≡ places_with [] l.index_sid l.unit l.fn.self)
    × IsRising place_cmp places × (l.place ≡ place_by places)
