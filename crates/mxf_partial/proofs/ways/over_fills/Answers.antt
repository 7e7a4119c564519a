use Rattle.mxf_views.proofs.Common.{◌∙◌, List, arith, subst, NoteParts, IsCatalogue}
use Rattle.mxf_partial.proofs.WayLaws.{far_from_fills}
use Rattle.mxf_partial.proofs.ways.over_fills.Goals as goal

pub returns-then-offset-from : goal.returns-then-offset-from
returns-then-offset-from c = far_from_fills c.args.holdings.now c.args.offset
    (subst (λ (notes : List NoteParts). IsCatalogue notes)
    (c.catalogue.ensures ∙ c.views.ensures) c.laws.ensures.catalogue)
    (let far = c.if-offset-from.true in let most = c.from.ensures in omega (arith, far, most))
