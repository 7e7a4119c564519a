use Rattle.std.proofs.Common.{append-nil, ◌∙◌, ◌++◌, List, sym, ap, map, filter}
use Rattle.mxf_klv.specs.Parts.{NoteParts}
use Rattle.mxf_doubts.specs.Codes.{doubt}
use Rattle.mxf_doubts.specs.Doubts.{is_note_cause}
use Rattle.mxf_doubts.proofs.doubt.collected.Collected.add_clear.Goals as goal

pub returns : goal.returns
returns c = sym (append-nil c.loop-note.self) ∙ sym (ap (λ (l : List NoteParts).
    c.loop-note.self ++ map (doubt c.args.code) (map (λ n. n.offset) (filter (is_note_cause c.args.code c.args.asked.now) l)))
    c.in-None.ensures.steps.0) ∙ c.loop-note.invariant
