use Rattle.mxf_views.proofs.Common.{◌∙◌, ap, PartitionParts, in_numbers, is_footer, partitions_of}
use Rattle.mxf_views.proofs.NumbersLaws.{any_mapped}
use Rattle.mxf_restore.specs.EndPacks.{has_footer}
use Rattle.mxf_restore.proofs.end_pack.has_footer.Goals as goal

pub returns : goal.returns
returns c =
    c.has_footer_among.ensures ∙ ap has_footer c.partitions_in_numbers.ensures.partitions
    ∙ any_mapped (λ (p : PartitionParts). is_footer p.pack.part) in_numbers (partitions_of c.args.views.now)
