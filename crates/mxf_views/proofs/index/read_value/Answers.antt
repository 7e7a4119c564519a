use Rattle.mxf_views.proofs.Common.{Bool, cond, None, sym, ap, ◌∙◌, result_ok, segment_at}
use Rattle.mxf_views.proofs.index.read_value.Goals as goal

pub returns : goal.returns
returns c =
    let kept = c.in_ok-value.ensures.some in
    let held = c.args.note.now.held in
    c.ok.ensures.value ∙ ap result_ok (c.read.ensures ∙ ap segment_at kept.1)
    ∙ sym (ap (λ (k : Bool). cond k (result_ok (segment_at held)) None) kept.0)
