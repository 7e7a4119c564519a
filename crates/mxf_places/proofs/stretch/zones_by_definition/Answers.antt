use Rattle.mxf_places.proofs.ZoneLaws.{stretch_says, zone_says}
use Rattle.mxf_places.proofs.stretch.zones_by_definition.Goals as goal

pub returns : goal.returns
returns c = record {
  stretches = λ zone notes from count s content. stretch_says notes content zone from count s;
  zones = λ zone notes p s content. zone_says notes content p zone s;
}
