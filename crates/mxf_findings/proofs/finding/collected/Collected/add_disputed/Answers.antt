use Rattle.mxf_views.proofs.Common.{append-nil, DisputedParts}
use Rattle.mxf_findings.proofs.Common.{◌∙◌, ◌++◌, List, sym, ap, map, filter, finding}
use Rattle.mxf_findings.specs.Findings.{is_dispute_cause}
use Rattle.mxf_findings.proofs.finding.collected.Collected.add_disputed.Goals as goal

pub returns : goal.returns
returns c = sym (append-nil c.loop-disputed.self) ∙ sym (ap (λ (l : List DisputedParts). c.loop-disputed.self
    ++ map (finding c.args.code) (map (λ d. d.note.offset) (filter (is_dispute_cause c.args.code) l)))
    c.in-None.ensures.steps.0) ∙ c.loop-disputed.invariant
