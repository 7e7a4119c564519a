use Rattle.mxf_views.proofs.Common.{◌∙◌, ap, arith, clear_notes, length, length-filter_map, partition_at}
use Rattle.mxf_views.proofs.Common.{partitions_among, partitions_of}
use Rattle.mxf_views.proofs.KeptLaws.{partitions_kept}
use Rattle.mxf_views.proofs.partition.Partitions.of.Goals as goal

pub returns-clause-partitions : goal.returns-clause-partitions
returns-clause-partitions c =
    ap partitions_among c.of-notes.ensures ∙ partitions_kept c.args.catalogue.now c.args.kept.now c.requires

pub returns-clause-bound : goal.returns-clause-bound
unfolding partitions_of
returns-clause-bound c = grind (arith, length-filter_map, partition_at, clear_notes, length, returns-clause-partitions)
