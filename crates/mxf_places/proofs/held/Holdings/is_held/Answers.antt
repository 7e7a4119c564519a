use Rattle.mxf_views.proofs.Common.{List, subst, ◌∙◌, ◌≡◌, NoteParts, same_bool}
use Rattle.mxf_places.specs.Held.{is_held}
use Rattle.mxf_places.proofs.HeldLaws.{is_held-says}
use Rattle.mxf_places.proofs.held.Holdings.is_held.Goals as goal

pub returns : goal.returns
returns c =
    let x = c.args.offset in
    let says = is_held-says c.catalogue.result.now x in
    let covers = c.spans.ensures.spans x in
    subst (λ (notes : List NoteParts). c.has.result ≡ is_held notes x) (c.catalogue.ensures ∙ c.self.view_is)
    (same_bool c.has.result (is_held c.catalogue.result.now x) (λ h. says.1 (covers.0 (c.has.ensures.0 h)))
    (λ h. c.has.ensures.1 (covers.1 (says.0 h))))
