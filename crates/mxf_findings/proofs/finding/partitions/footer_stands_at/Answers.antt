use Rattle.mxf_findings.proofs.Common.{◌∙◌, partitions_of}
use Rattle.mxf_findings.proofs.PartitionCauses.{footer_not_there, footer_there}
use Rattle.mxf_findings.proofs.finding.partitions.footer_stands_at.Goals as goal

pub returns-in-Some : goal.returns-in-Some
returns-in-Some c =
    c.is_footer.ensures ∙ footer_there c.args.views.now c.args.offset c.in-Some.partition.now c.in-Some.ensures

pub returns-in-None : goal.returns-in-None
returns-in-None c = footer_not_there (partitions_of c.args.views.now) c.args.offset c.in-None.ensures
