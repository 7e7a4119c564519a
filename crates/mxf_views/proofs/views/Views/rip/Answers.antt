use Rattle.mxf_views.proofs.Common.{◌∙◌, List, ap, PartitionParts, partitions_of, rip_view_among, rips_of}
use Rattle.mxf_views.proofs.NumbersLaws.{rip_in_numbers}
use Rattle.mxf_views.proofs.views.Views.rip.Goals as goal

pub returns : goal.returns
returns c =
    let notes = c.args.self.now in
    c.of.ensures ∙ ap (rip_view_among c.partitions_in_numbers.result.now) c.random_index_packs.ensures
    ∙ ap (λ (ps : List PartitionParts). rip_view_among ps (rips_of notes)) c.partitions_in_numbers.ensures.partitions
    ∙ rip_in_numbers (partitions_of notes) (rips_of notes)
