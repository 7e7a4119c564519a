use Rattle.std.proofs.Common.{append-nil}
use Rattle.mxf_findings.proofs.Common.{◌∙◌, ◌++◌, List, Run, sym, ap, map, F03, finding}
use Rattle.mxf_findings.proofs.finding.collected.Collected.add_gaps.Goals as goal

pub returns : goal.returns
returns c = sym (append-nil c.loop-gap.self)
    ∙ sym (ap (λ (l : List Run). c.loop-gap.self ++ map (finding F03) (map (λ r. r.start) l)) c.in-None.ensures.steps.0)
    ∙ c.loop-gap.invariant
