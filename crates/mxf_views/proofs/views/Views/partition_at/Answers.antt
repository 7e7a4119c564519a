use Rattle.mxf_views.proofs.Common.{◌∙◌, ◌==◌, ap, find, PartitionParts, partitions_of, in_numbers}
use Rattle.mxf_views.proofs.NumbersLaws.{find_mapped}
use Rattle.mxf_views.proofs.views.Views.partition_at.Goals as goal

pub returns : goal.returns
returns c =
    let at = λ (p : PartitionParts). p.offset == c.args.offset in
    c.find_by_key.ensures ∙ ap (find at) c.partitions_in_numbers.ensures.partitions
    ∙ find_mapped at in_numbers (partitions_of c.args.self.now)
