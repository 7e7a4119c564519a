use Rattle.mxf_findings.proofs.Common.{◌≡◌, ◌++◌, drop, map, filter, F09, finding, findings_for, is_partial}
use Rattle.mxf_findings.proofs.finding.collected.Collected.add_copies.Given as goal

abbrev pub invariant-loop-copy : goal.invariant-loop-copy
invariant-loop-copy l = l.self ++
    (map (finding F09) (map (λ c. c.partition) (filter is_partial (drop l.copy-index l.copy-items))))
    ≡ l.fn.self ++ (findings_for F09 l.views)
