use Rattle.mxf_views.proofs.Common.{◌∙◌, ◌||◌, ap, is_footer, is_greatest, list_all, not, partitions_of, PartitionParts}
use Rattle.mxf_views.specs.Partitions.{in_numbers}
use Rattle.mxf_views.proofs.NumbersLaws.{all_mapped}
use Rattle.mxf_views.proofs.views.Views.ends_in_footer.Goals as goal

pub loop-partition-init : goal.loop-partition-init
loop-partition-init c =
    let ps = partitions_of c.args.self.now in
    let test = λ (p : PartitionParts). not (is_footer p.pack.part) || is_greatest ps p in
    ap (list_all test) c.partitions_in_numbers-partition-items.ensures.partitions ∙ all_mapped test in_numbers ps
