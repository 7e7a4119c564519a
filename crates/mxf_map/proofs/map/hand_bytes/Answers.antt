use Rattle.mxf_views.proofs.Common.{◌∙◌, List, ap, subst, NoteParts, Covers}
use Rattle.mxf_places.specs.AtHand.{AtHandParts, outside_below}
use Rattle.mxf_map.proofs.MapLaws.{hand_is}
use Rattle.mxf_map.proofs.map.hand_bytes.Goals as goal

pub returns : goal.returns
returns c =
    let same = c.catalogue.ensures ∙ c.views.ensures ∙ c.holdings.ensures in
    c.count_outside.ensures
    ∙ ap (λ (a : AtHandParts). outside_below a.hand c.spans-held.result.now c.args.end) c.at_hand.ensures
    ∙ hand_is c.args.layers.now c.spans-held.result.now
    (subst (λ (notes : List NoteParts). Covers c.spans-held.result.now notes) same c.spans-held.ensures.spans)
    c.args.end
