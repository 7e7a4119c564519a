use Rattle.mxf_views.proofs.Common.{◌∙◌, ap, is_linked, list_all, partitions_of, in_numbers}
use Rattle.mxf_views.proofs.NumbersLaws.{all_mapped}
use Rattle.mxf_views.proofs.views.Views.are_linked.Goals as goal

pub loop-partition-init : goal.loop-partition-init
loop-partition-init c =
    let ps = partitions_of c.args.self.now in
    ap (list_all (is_linked ps)) c.partitions_in_numbers-partition-items.ensures.partitions
    ∙ all_mapped (is_linked ps) in_numbers ps
