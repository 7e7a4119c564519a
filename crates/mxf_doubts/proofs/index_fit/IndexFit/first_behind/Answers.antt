use Rattle.mxf_views.proofs.Common.{◌∙◌, List, NoteParts, IsCatalogue, ap, arith, subst, sym}
use Rattle.mxf_doubts.specs.IndexFit.{first_behind}
use Rattle.mxf_doubts.proofs.FitLaws.{far_first}
use Rattle.mxf_doubts.proofs.index_fit.IndexFit.first_behind.Goals as goal

pub returns-then-begin-from : goal.returns-then-begin-from
returns-then-begin-from c =
    let is = subst (λ (l : List NoteParts). IsCatalogue l) (c.catalogue.ensures ∙ c.views.ensures) c.laws.ensures.catalogue in
    far_first c.self.inside.holdings c.args.partition.now c.in_ok-begin.begin is (sym c.in_ok-begin.ensures)
    (omega (arith, c.from.ensures, c.if-begin-from.true))
    ∙ ap (λ (l : List NoteParts). first_behind l c.args.partition.now) c.self.view_is
