use Rattle.mxf_views.proofs.Common.{◌∙◌, List, ap, PartitionParts, partitions_of, link_by}
use Rattle.mxf_views.proofs.NumbersLaws.{link_in_numbers}
use Rattle.mxf_views.proofs.views.Views.link_by.Goals as goal

pub returns : goal.returns
returns c = c.link_by.ensures ∙ ap (λ (ps : List PartitionParts). link_by ps c.args.offset c.args.previous)
    c.partitions_in_numbers.ensures.partitions
    ∙ link_in_numbers (partitions_of c.args.self.now) c.args.offset c.args.previous
