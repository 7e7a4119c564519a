use Rattle.std.proofs.Common.{append-nil}
use Rattle.mxf_findings.proofs.Common.{◌∙◌, ◌++◌, List, NoteParts, sym, ap, map, filter, finding}
use Rattle.mxf_findings.specs.Findings.{is_note_cause}
use Rattle.mxf_findings.proofs.finding.collected.Collected.add_clear.Goals as goal

pub returns : goal.returns
returns c = sym (append-nil c.loop-note.self) ∙ sym (ap (λ (l : List NoteParts).
    c.loop-note.self ++ map (finding c.args.code) (map (λ n. n.offset) (filter (is_note_cause c.args.code) l)))
    c.in-None.ensures.steps.0) ∙ c.loop-note.invariant
