use Rattle.mxf_views.proofs.PlaceLaws.{place_by_list, place_iff}
use Rattle.mxf_views.proofs.index.place.places_by_definition.Goals as goal

pub returns : goal.returns
returns c = record { place = place_iff; places = place_by_list }
