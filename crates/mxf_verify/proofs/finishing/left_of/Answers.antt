use Rattle.std.proofs.lemmas.Result.{IfOk-weaker}
use Rattle.mxf_verify.proofs.FinishingLaws.{left_of_both}
use Rattle.mxf_verify.proofs.finishing.left_of.Goals as goal

pub returns : goal.returns
returns c =
    IfOk-weaker c.rest_of-2.result _ _ (λ r h. left_of_both _ _ _ _ _ c.in_ok-left.ensures h) c.rest_of-2.ensures
