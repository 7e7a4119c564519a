use Rattle.std.proofs.Common.{◌∙◌, ap, sym, cond, lt-ltb, le-ltb, None, Some}
use Rattle.mxf_places.specs.Held.{held_end}
use Rattle.mxf_places.proofs.HeldLaws.{end_of_file-by, held_end-is}
use Rattle.mxf_places.proofs.held.end_of_file.Goals as goal

pub returns-then-end : goal.returns-then-end
returns-then-end c =
    let reached = held_end-is c.catalogue.result.now c.spans.result.now c.end.result c.spans.ensures.spans c.end.ensures
    ∙ ap held_end c.catalogue.ensures in
    sym (end_of_file-by c.args.views.now c.in_ok-end.end c.end.result (sym c.in_ok-end.ensures) reached
    ∙ ap (λ b. cond b None (Some c.in_ok-end.end)) (lt-ltb _ _ c.if-end.true))

pub returns : goal.returns
returns c =
    let reached = held_end-is c.catalogue.result.now c.spans.result.now c.end.result c.spans.ensures.spans c.end.ensures
    ∙ ap held_end c.catalogue.ensures in
    sym (end_of_file-by c.args.views.now c.in_ok-end.end c.end.result (sym c.in_ok-end.ensures) reached
    ∙ ap (λ b. cond b None (Some c.in_ok-end.end)) (le-ltb _ _ c.if-end.false))
