use Rattle.mxf_findings.proofs.Common.{◌∙◌, List, ap, are_entries_of, PartitionParts, partitions_of}
use Rattle.mxf_findings.specs.Findings.{is_index_of}
use Rattle.mxf_findings.proofs.PartitionCauses.{entries_in_numbers}
use Rattle.mxf_findings.proofs.finding.index.is_index.Goals as goal

pub returns-in-Some : goal.returns-in-Some
returns-in-Some c =
    let ps = partitions_of c.args.views.now in
    let entries = c.in-Some.rip.entries in
    c.are_entries_of.ensures ∙ ap (are_entries_of c.partitions_in_numbers.result.now) c.entries.ensures
    ∙ ap (λ (l : List PartitionParts). are_entries_of l entries) c.partitions_in_numbers.ensures.partitions
    ∙ entries_in_numbers ps entries ∙ ap (is_index_of ps) c.in-Some.ensures.rip
