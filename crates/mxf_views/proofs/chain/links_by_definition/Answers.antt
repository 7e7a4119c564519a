use Rattle.mxf_views.proofs.Common.{partitions_of}
use Rattle.mxf_views.proofs.PartitionLaws.{link_iff, link_at_iff, partitions_rise}
use Rattle.mxf_views.proofs.chain.links_by_definition.Goals as goal

pub returns : goal.returns
returns c = record {
  link = link_iff;
  there = λ notes offset l r. link_at_iff (partitions_of notes) offset l (partitions_rise notes r);
}
