use Rattle.mxf_views.proofs.Common.{◌∙◌, ◌↔◌, IsTrue, ap, not, subst, sym, not-false, not-true, In}
use Rattle.mxf_verify.proofs.OtherLaws.{headed_head, headed_whole}
use Rattle.mxf_verify.proofs.saved.is_headed.Goals as goal

pub returns-then-not-is_head : goal.returns-then-not-is_head
returns-then-not-is_head c =
    let n = c.args.note.now in
    let notes = c.args.catalogue.now in
    let b = c.holds-then-not-is_head.result in
    headed_whole n notes b (not-false n.whole (sym c.is_head.ensures ∙ c.if-not-is_head.true))
    (subst (λ m. IsTrue b ↔ In m notes) c.to_head.ensures c.holds-then-not-is_head.ensures)

pub returns-else-not-is_head : goal.returns-else-not-is_head
returns-else-not-is_head c =
    let n = c.args.note.now in
    ap not c.if-not-is_head.false
    ∙ headed_head n c.args.catalogue.now (not-true n.whole (sym c.is_head.ensures ∙ c.if-not-is_head.false))
