use Rattle.std.proofs.Common.{◌∙◌, ap, subst, arith, length}
use Rattle.mxf_catalogue.specs.Content.{AreReduced, IsCatalogue, union_of}
use Rattle.mxf_catalogue.proofs.KeptLaws.{union_is}
use Rattle.mxf_catalogue.proofs.PartLaws.{length-parts}
use Rattle.mxf_catalogue.proofs.catalogue.Catalogue.notes.Goals as goal

pub returns-clause-catalogue : goal.returns-clause-catalogue
returns-clause-catalogue c =
    let lists = c.self.inside.lists in
    subst IsCatalogue c.self.view_is (union_is lists.undisputed.items lists.disputed.items c.self.invariant.kept.parts)

pub returns-clause-bound : goal.returns-clause-bound
returns-clause-bound c =
    let lists = c.self.inside.lists in
    let is = ap length (c.of.ensures ∙ (λ i. union_of (c.deref.ensures.value i) (c.deref-2.ensures.value i))) in
    let both = length-parts lists.undisputed.items lists.disputed.items c.self.invariant.kept.parts in
    omega (arith, is, both, lists.undisputed.ok, lists.disputed.ok, lists.undisputed.small, lists.disputed.small)

pub returns-clause-reduced : goal.returns-clause-reduced
returns-clause-reduced c = subst AreReduced c.self.view_is c.self.invariant.kept.reduced
