use Rattle.mxf_findings.proofs.Common.{◌≡◌, are_entries_of, drop}
use Rattle.mxf_findings.proofs.finding.index.are_entries_of.Given as goal

abbrev pub invariant-loop-partition : goal.invariant-loop-partition
invariant-loop-partition l =
    are_entries_of (drop l.partition-index l.partitions) l.entries ≡ are_entries_of l.partitions l.fn.entries
