use Rattle.mxf_views.proofs.Common.{◌∙◌, ap, nat_lt, list_any, PartitionParts, partitions_of}
use Rattle.mxf_views.specs.Partitions.{in_numbers}
use Rattle.mxf_views.proofs.NumbersLaws.{any_mapped}
use Rattle.mxf_views.proofs.views.Views.any_partition_above.Goals as goal

pub returns : goal.returns
returns c =
    let above = λ (p : PartitionParts). nat_lt c.args.offset p.offset in
    c.any_above.ensures ∙ ap (list_any above) c.partitions_in_numbers.ensures.partitions
    ∙ any_mapped above in_numbers (partitions_of c.args.self.now)
