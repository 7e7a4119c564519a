use Rattle.std.proofs.Common.{◌∙◌, sym}
use Rattle.mxf_skim.proofs.ContainerLaws.{keeps_nothing, some_where}
use Rattle.mxf_skim.proofs.passed.passed_over.Goals as goal

pub returns : goal.returns
returns c =
    let is = sym c.is_of_container.ensures ∙ c.if-not-is_of_container.false in
    some_where c.digested.result _ _ _ (λ can. (is, (can.0, can.1)))
    (λ can. (can.1.0, can.1.1, keeps_nothing c.args.key c.args.length is)) c.digested.ensures
