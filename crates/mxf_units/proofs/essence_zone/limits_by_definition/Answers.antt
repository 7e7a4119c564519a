use Rattle.mxf_views.proofs.Common.{Option, ap, option_map, NoteParts}
use Rattle.mxf_units.specs.EssenceZones.{zone_by, zone_of}
use Rattle.mxf_units.proofs.LimitLaws.{one-zone, zone-by}
use Rattle.mxf_units.proofs.essence_zone.limits_by_definition.Goals as goal

pub returns : goal.returns
unfolding zone_of
returns c = record {
  zone = zone-by;
  known = λ notes p n e. ap (λ (o : Option NoteParts). option_map (zone_by notes p) o) e;
  unknown = λ notes p e. ap (λ (o : Option NoteParts). option_map (zone_by notes p) o) e;
  one = one-zone;
}
