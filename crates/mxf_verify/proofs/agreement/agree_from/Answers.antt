use Rattle.std.proofs.Common.{drop, ◌≡◌, ap, ◌∙◌}
use Rattle.std.proofs.lemmas.List.{drop_min}
use Rattle.mxf_verify.specs.Agreeing.{agrees}
use Rattle.mxf_verify.proofs.ByteLaws.{agrees_same}
use Rattle.mxf_verify.proofs.agreement.agree_from.Goals as goal

pub returns : goal.returns
returns c =
    let known = c.args.known.now in
    let back : c.split_at.result.1.now ≡ drop c.args.at known =
    c.split_at.ensures.back ∙ (ap (λ k. drop k known) c.min.ensures ∙ drop_min c.args.at known) in
    c.eq.ensures ∙ agrees_same c.split_at.result.1.now c.args.bytes.now c.min-count.result c.min-count.ensures
    ∙ ap (λ l. agrees l c.args.bytes.now) back
