use Rattle.mxf_findings.proofs.Common.{◌≡◌, ◌++◌, drop, map, filter, finding, partitions_of}
use Rattle.mxf_findings.specs.Findings.{is_partition_cause, partitions_at}
use Rattle.mxf_findings.proofs.finding.collected.Collected.add_partitions.Given as goal

abbrev pub invariant-loop-partition : goal.invariant-loop-partition
invariant-loop-partition l = l.self ++ map (finding l.code) (map (λ p. p.offset)
    (filter (is_partition_cause l.code (partitions_of l.views)) (drop l.partition-index l.partition-items)))
    ≡ l.fn.self ++ map (finding l.code) (partitions_at l.code l.views)
