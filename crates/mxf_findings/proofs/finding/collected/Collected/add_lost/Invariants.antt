use Rattle.mxf_findings.proofs.Common.{◌≡◌, ◌++◌, map, drop, F13, finding, lost_at}
use Rattle.mxf_findings.proofs.finding.collected.Collected.add_lost.Given as goal

abbrev pub invariant-loop-reference : goal.invariant-loop-reference
invariant-loop-reference l = l.self ++ (map (finding F13) (lost_at l.offset (drop l.reference-index l.references)))
    ≡ l.fn.self ++ (map (finding F13) (lost_at l.offset l.references))
