use Rattle.std.proofs.Common.{◌∙◌, ap, subst, sym}
use Rattle.mxf_catalogue.specs.Content.{AreReduced, IsCatalogue, reduced_union}
use Rattle.mxf_catalogue.proofs.KeptLaws.{union_is}
use Rattle.mxf_catalogue.proofs.HeadLaws.{reduced_union-none}
use Rattle.mxf_catalogue.proofs.catalogue.Catalogue.merge.Goals as goal

pub returns-then-is_empty-clause-merged : goal.returns-then-is_empty-clause-merged
returns-then-is_empty-clause-merged c =
    let none = c.is_empty.ensures.0 c.if-is_empty.true in
    let lists = c.other.inside.lists in
    let all = subst IsCatalogue c.other.view_is
    (union_is lists.undisputed.items lists.disputed.items c.other.invariant.kept.parts) in
    let red = subst AreReduced c.other.view_is c.other.invariant.kept.reduced in
    c.other.view_is ∙ sym (reduced_union-none c.args.other all.content red)
    ∙ ap (λ l. reduced_union l c.args.other) (sym none)

pub returns-then-is_empty-clause-history : goal.returns-then-is_empty-clause-history
returns-then-is_empty-clause-history c h k p q = cc (returns-then-is_empty-clause-merged c)
