use Rattle.mxf_views.proofs.Common.{◌∙◌, ap, same_bool}
use Rattle.mxf_places.specs.AtHand.{AtHandParts, has_offsets}
use Rattle.mxf_places.proofs.AtHandLaws.{has_offsets-says}
use Rattle.mxf_places.proofs.at_hand.AtHand.gives_all.Goals as goal

pub returns : goal.returns
returns c =
    let runs = c.self.inside.given in
    let says = has_offsets-says runs c.args.start c.args.end c.self.invariant.given in
    same_bool c.has_all.result (has_offsets runs c.args.start c.args.end) (λ t. says.1 (c.has_all.ensures.0 t))
    (λ t. c.has_all.ensures.1 (says.0 t))
    ∙ ap (λ (a : AtHandParts). has_offsets a.given c.args.start c.args.end) c.self.view_is
