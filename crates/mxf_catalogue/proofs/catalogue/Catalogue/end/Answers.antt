use Rattle.mxf_klv.proofs.Common.{◌↔◌, ◌≤◌, List, subst, end_of, NoteParts, In}
use Rattle.mxf_catalogue.proofs.catalogue.Catalogue.end.Goals as goal

pub returns : goal.returns
returns c = λ bound.
    subst (λ (l : List NoteParts). c.end.result ≤ bound ↔ ((n : NoteParts) → In n l → end_of n ≤ bound)) c.self.view_is
    (c.end.ensures bound)
