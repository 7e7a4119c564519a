use Rattle.mxf_restore.proofs.DisputedPlaceMembers.{disputed_places_say}
use Rattle.mxf_restore.proofs.PlanMembers.{disputed_place_members, disputed_places_rise}
use Rattle.mxf_restore.proofs.plan.disputed_places_by_definition.Goals as goal

pub returns : goal.returns
returns c = record {
  places = λ at notes d content. disputed_places_say notes content at d;
  members = disputed_place_members;
  rising = disputed_places_rise;
}
