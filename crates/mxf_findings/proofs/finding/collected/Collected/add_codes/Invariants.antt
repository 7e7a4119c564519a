use Rattle.mxf_findings.proofs.Common.{◌≡◌, ◌++◌, drop, flat_map, findings_for}
use Rattle.mxf_findings.proofs.finding.collected.Collected.add_codes.Given as goal

abbrev pub invariant-loop-code : goal.invariant-loop-code
invariant-loop-code l = l.self ++ flat_map (λ code. findings_for code l.views) (drop l.code-index l.codes)
    ≡ l.fn.self ++ flat_map (λ code. findings_for code l.views) l.codes
