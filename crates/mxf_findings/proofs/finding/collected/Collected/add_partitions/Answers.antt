use Rattle.mxf_findings.specs.Findings.{is_partition_cause}
use Rattle.mxf_findings.proofs.Common.{◌∙◌, ◌++◌, List, ℕ, ap, map, filter, finding, PartitionParts, partitions_of}
use Rattle.mxf_findings.proofs.PartitionCauses.{causes_in_numbers}
use Rattle.mxf_findings.proofs.finding.collected.Collected.add_partitions.Goals as goal

pub loop-partition-init : goal.loop-partition-init
loop-partition-init c =
    let ps = partitions_of c.args.views.now in
    let told = λ (os : List ℕ). c.args.self.now ++ map (finding c.args.code) os in
    ap (λ (l : List PartitionParts). told (map (λ p. p.offset) (filter (is_partition_cause c.args.code ps) l)))
    c.partitions_in_numbers-partition-items.ensures.partitions ∙ ap told (causes_in_numbers c.args.code ps ps)
