use Rattle.mxf_views.proofs.Common.{◌∙◌, ap, same_bool}
use Rattle.mxf_places.specs.AtHand.{AtHandParts, has_offset}
use Rattle.mxf_places.proofs.AtHandLaws.{has_offset-says}
use Rattle.mxf_places.proofs.at_hand.AtHand.has.Goals as goal

pub returns : goal.returns
returns c =
    let says = has_offset-says c.self.inside.hand c.args.offset in
    same_bool c.has.result (has_offset c.self.inside.hand c.args.offset) (λ t. says.1 (c.has.ensures.0 t))
    (λ t. c.has.ensures.1 (says.0 t)) ∙ ap (λ (a : AtHandParts). has_offset a.hand c.args.offset) c.self.view_is
