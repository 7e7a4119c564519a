use Rattle.mxf_views.proofs.Common.{◌==◌, ◌∙◌, ap, count_by, partitions_of, PartitionParts}
use Rattle.mxf_views.specs.Partitions.{in_numbers, is_part}
use Rattle.mxf_klv.proofs.Counts.{count_mapped}
use Rattle.mxf_views.proofs.views.Views.has_one.Goals as goal

pub returns : goal.returns
returns c =
    let test = λ (p : PartitionParts). is_part c.args.part p.pack.part in
    ap (λ n. n == 1) (c.part_count.ensures ∙ ap (count_by test) c.partitions_in_numbers.ensures.partitions
    ∙ count_mapped test in_numbers (partitions_of c.args.self.now))
