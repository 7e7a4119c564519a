use Rattle.std.proofs.Common.{append-nil}
use Rattle.mxf_findings.proofs.Common.{◌∙◌, ◌++◌, List, NoteParts, sym, ap, map, F04, finding}
use Rattle.mxf_findings.proofs.finding.collected.Collected.add_packs.Goals as goal

pub returns : goal.returns
returns c = sym (append-nil c.loop-note.self)
    ∙ sym (ap (λ (l : List NoteParts). c.loop-note.self ++ map (finding F04) (map (λ n. n.offset) l))
    c.in-None.ensures.steps.0) ∙ c.loop-note.invariant
