use Rattle.mxf_views.proofs.PartitionLaws.{partitions_are, partitions_rise}
use Rattle.mxf_views.proofs.partition.partitions_by_definition.Goals as goal

pub returns : goal.returns
returns c = record { partitions = partitions_are; rising = partitions_rise }
