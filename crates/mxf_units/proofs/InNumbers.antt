-- What the definitions of essence say of partitions by their numbers is what they say of the partitions.
use Rattle.mxf_views.proofs.Common.{◌≡◌, List, map, map-map, NoteParts, PartitionParts, in_numbers}
use Rattle.mxf_places.specs.Claims.{index_of, metadata_of}
use Rattle.mxf_units.specs.EssenceZones.{first_packet, part_of, zone_of}

pub parts_in_numbers : (notes : List NoteParts) (ps : List PartitionParts)
    → map (part_of notes) (map in_numbers ps) ≡ map (part_of notes) ps
unfolding zone_of first_packet metadata_of index_of
parts_in_numbers notes ps = map-map (part_of notes) in_numbers ps
