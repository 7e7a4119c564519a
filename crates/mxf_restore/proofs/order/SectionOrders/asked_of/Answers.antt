use Rattle.std.proofs.Common.{◌∙◌, ap, find}
use Rattle.mxf_places.specs.Claims.{is_claimed}
use Rattle.mxf_restore.specs.EndPacks.{has_end_pack}
use Rattle.mxf_restore.specs.Plan.{asked_of}
use Rattle.mxf_places.specs.Heads.{needed_of, start_of}
use Rattle.mxf_restore.proofs.OrderLaws.{asked_is}
use Rattle.mxf_restore.proofs.order.SectionOrders.asked_of.Goals as goal

pub returns : goal.returns
returns c =
    let notes = c.self.inside.holdings.now in
    let at = c.self.inside.at_hand.now in
    let p = c.args.section in
    let claims = c.self.invariant.0 in
    let heads = c.self.invariant.1 in
    let head = c.around-head.result in
    c.asked.ensures ∙ asked_is at notes p head c.claim_at-claim.result c.end_by-end.result c.needed_end.result
    (has_end_pack c.views.result.now) (ap has_end_pack c.views.ensures)
    (c.around-head.ensures.start ∙ ap (λ ns. start_of ns p.first) heads)
    (c.around-head.ensures.needed ∙ ap (λ ns. needed_of ns (start_of ns p.first) p.first) heads)
    (c.claim_at-claim.ensures ∙ ap (find (is_claimed head.offset)) claims) c.end_by-end.ensures c.needed_end.ensures
    ∙ ap (λ e. asked_of e.at e.notes p) c.self.view_is
