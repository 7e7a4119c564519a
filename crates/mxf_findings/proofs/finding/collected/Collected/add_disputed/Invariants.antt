use Rattle.mxf_findings.proofs.Common.{◌≡◌, ◌++◌, map, filter, finding}
use Rattle.mxf_findings.specs.Findings.{disputed_at, is_dispute_cause}
use Rattle.mxf_findings.proofs.finding.collected.Collected.add_disputed.Given as goal

abbrev pub invariant-loop-disputed : goal.invariant-loop-disputed
invariant-loop-disputed l = l.self
    ++ map (finding l.code) (map (λ d. d.note.offset) (filter (is_dispute_cause l.code) l.disputed-iterator))
    ≡ l.fn.self ++ map (finding l.code) (disputed_at l.code l.views)
