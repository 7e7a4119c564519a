use Rattle.mxf_findings.proofs.Common.{◌≡◌, ◌++◌, map, F03, finding, findings_for}
use Rattle.mxf_findings.proofs.finding.collected.Collected.add_gaps.Given as goal

abbrev pub invariant-loop-gap : goal.invariant-loop-gap
invariant-loop-gap l = l.self ++ (map (finding F03) (map (λ r. r.start) l.gap-iterator))
    ≡ l.fn.self ++ (findings_for F03 l.views)
