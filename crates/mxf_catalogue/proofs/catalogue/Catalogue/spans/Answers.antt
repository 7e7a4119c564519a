use Rattle.std.proofs.Common.{subst}
use Rattle.mxf_catalogue.specs.Content.{IsCatalogue}
use Rattle.mxf_catalogue.specs.NoteLists.{Covers}
use Rattle.mxf_catalogue.proofs.KeptLaws.{union_is}
use Rattle.mxf_catalogue.proofs.catalogue.Catalogue.spans.Goals as goal

pub returns-clause-spans : goal.returns-clause-spans
returns-clause-spans c = subst (Covers c.self.inside.spans) c.self.view_is c.self.invariant.covers

pub returns-clause-catalogue : goal.returns-clause-catalogue
returns-clause-catalogue c =
    let lists = c.self.inside.lists in
    subst IsCatalogue c.self.view_is (union_is lists.undisputed.items lists.disputed.items c.self.invariant.kept.parts)
