-- What the definitions of places say of partitions by their numbers is what they say of the partitions.
use Rattle.mxf_views.proofs.Common.{◌≡◌, List, map, NoteParts, PartitionParts, in_numbers}
use Rattle.std.specs.List.{filter_map}
use Rattle.mxf_views.proofs.NumbersLaws.{filter_map_mapped}
use Rattle.mxf_places.specs.Claims.{footer_claim, index_of, metadata_of, previous_claim, zone_claim}
use Rattle.mxf_places.specs.declared.stretch.Zone.{Zone}
use Rattle.mxf_places.specs.declared.stretch.Zone.TheVariants as kinds

pub footers : (ps : List PartitionParts) → filter_map footer_claim (map in_numbers ps) ≡ filter_map footer_claim ps
unfolding footer_claim
footers ps = filter_map_mapped footer_claim in_numbers ps

pub previous : (ps : List PartitionParts) → filter_map previous_claim (map in_numbers ps) ≡ filter_map previous_claim ps
unfolding previous_claim
previous ps = filter_map_mapped previous_claim in_numbers ps

pub zones : (zone : Zone) (notes : List NoteParts) (ps : List PartitionParts)
    → filter_map (zone_claim zone notes) (map in_numbers ps) ≡ filter_map (zone_claim zone notes) ps
unfolding zone_claim metadata_of index_of
zones kinds.Metadata notes ps = filter_map_mapped (zone_claim kinds.Metadata notes) in_numbers ps
zones kinds.Index notes ps = filter_map_mapped (zone_claim kinds.Index notes) in_numbers ps
