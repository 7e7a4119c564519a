use Rattle.mxf_views.proofs.Common.{◌∙◌, ◌++◌, ap, subst, SameOffsets}
use Rattle.std.specs.Result.{IfOk}
use Rattle.mxf_verify.proofs.finishing.covered_by.Goals as goal

pub returns : goal.returns
returns c =
    let all = c.in_ok-extend_from_slice.ensures.items ∙ ap (λ l. l ++ c.args.others.now) c.in_ok-all.ensures.items in
    subst (λ l. IfOk c.cover_of.result (λ r. SameOffsets r l)) all c.cover_of.ensures
