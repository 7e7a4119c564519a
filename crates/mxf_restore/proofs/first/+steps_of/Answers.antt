use Rattle.std.proofs.Common.{◌≡◌, ◌∙◌, ◌++◌, None, sym, subst, take-append-drop}
use Rattle.std.proofs.lemmas.Result.{IfOk-weaker}
use Rattle.mxf_restore.specs.Steps.{AreSteps, overlay}
use Rattle.mxf_restore.proofs.StepLaws.{laid_over}
use Rattle.mxf_restore.proofs.first.+steps_of.Goals as goal

pub returns : goal.returns
returns t c =
    let claims = c.args.claims.now in
    let front = c.split_at.result.0.now in
    let back = c.split_at.result.1.now in
    let upper = c.in_ok-upper.upper.items in
    let lower = c.in_ok-lower.lower.items in
    let whole : front ++ back ≡ claims =
    (λ i. c.split_at.ensures.front i ++ c.split_at.ensures.back i) ∙ take-append-drop _ claims in
    let steps = subst (λ cs. AreSteps cs (overlay None upper None lower)) whole
    (laid_over front back upper lower c.in_ok-upper.ensures c.in_ok-lower.ensures) in
    let same : overlay None c.deref.result.now None c.deref-2.result.now ≡ overlay None upper None lower =
    (λ i. overlay None (c.deref.ensures.value i) None (c.deref-2.ensures.value i)) in
    IfOk-weaker c.laid_over.result (λ r. r.items ≡ overlay None c.deref.result.now None c.deref-2.result.now)
    (λ r. AreSteps claims r.items) (λ r e. subst (AreSteps claims) (sym (e ∙ same)) steps) c.laid_over.ensures
