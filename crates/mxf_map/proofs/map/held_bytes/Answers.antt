use Rattle.mxf_views.proofs.Common.{◌∙◌, List, subst, NoteParts, Covers}
use Rattle.mxf_map.proofs.MapLaws.{held_is}
use Rattle.mxf_map.proofs.map.held_bytes.Goals as goal

pub returns : goal.returns
returns c =
    let same = c.catalogue.ensures ∙ c.views.ensures ∙ c.holdings.ensures in
    c.bytes_of.ensures.bytes ∙ held_is c.args.layers.now c.spans.result.now
    (subst (λ (notes : List NoteParts). Covers c.spans.result.now notes) same c.spans.ensures.spans)
    c.bytes_of.ensures.cover
