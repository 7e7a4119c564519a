use Rattle.mxf_klv.proofs.Common.{◌∙◌, ◌==◌, ap, rules}
use Rattle.mxf_doubts.specs.Strange.{count_of}
use Rattle.mxf_doubts.proofs.strange.Keys.is_lone.Goals as goal

pub returns : goal.returns
returns c =
    let n = c.args.note.now in
    let counted = c.self.invariant.counted c.key.result in
    let of = c.count_of.ensures ∙ ap (count_of c.key.result) c.deref.ensures.value in
    ap (λ k. k == 1) (of ∙ counted) ∙ search rules
