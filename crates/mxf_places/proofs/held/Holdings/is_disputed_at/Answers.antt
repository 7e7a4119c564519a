use Rattle.mxf_views.proofs.Common.{List, subst, ◌≡◌, NoteParts, same_bool}
use Rattle.mxf_places.specs.Held.{is_disputed_at}
use Rattle.mxf_places.proofs.HeldLaws.{is_disputed_at-says}
use Rattle.mxf_places.proofs.held.Holdings.is_disputed_at.Goals as goal

pub returns : goal.returns
returns c =
    let x = c.args.offset in
    let notes = c.self.inside.views.now in
    let says = is_disputed_at-says notes x in
    let disputed = c.self.invariant.0 x in
    subst (λ (all : List NoteParts). c.has.result ≡ is_disputed_at all x) c.self.view_is
    (same_bool c.has.result (is_disputed_at notes x) (λ h. says.1 (disputed.0 (c.has.ensures.0 h)))
    (λ h. c.has.ensures.1 (disputed.1 (says.0 h))))
