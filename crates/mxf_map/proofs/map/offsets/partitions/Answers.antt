use Rattle.mxf_views.proofs.Common.{◌∙◌, ◌<◌, subst, sym, List, AllByRecursion, greatest_end, NoteParts, IsCatalogue}
use Rattle.mxf_views.proofs.Common.{partitions_of}
use Rattle.mxf_map.specs.Layers.{BeginsPartition, partition_offsets}
use Rattle.mxf_map.proofs.LayerLaws.{offsets_of, partitions_begin, partitions_within}
use Rattle.mxf_map.proofs.map.offsets.partitions.Goals as goal

pub set_of-requires : goal.set_of-requires
set_of-requires c =
    subst (AllByRecursion (λ x. x < greatest_end)) (sym (c.deref.ensures.value ∙ c.in_ok-offsets.ensures))
    (partitions_within c.args.views.now c.args.part
    (subst (λ (notes : List NoteParts). IsCatalogue notes) c.catalogue.ensures c.laws.ensures.catalogue))

pub returns : goal.returns
returns c =
    offsets_of c.set_of.result c.deref.result.now (partition_offsets c.args.part (partitions_of c.args.views.now))
    (BeginsPartition c.args.views.now c.args.part) (c.deref.ensures.value ∙ c.in_ok-offsets.ensures)
    (partitions_begin c.args.views.now c.args.part) c.set_of.ensures
