use Rattle.std.proofs.Common.{◌∙◌, ◌≢◌, ◌≤◌, [], ap, length, subst, sym, vec_capacity}
use Rattle.mxf_catalogue.specs.declared.catalogue.note_lists.NoteLists.{NoteLists}
use Rattle.mxf_catalogue.specs.Content.{AreReduced, IsCatalogue, reduced_union, union_of}
use Rattle.mxf_catalogue.proofs.KeptLaws.{union_is}
use Rattle.mxf_catalogue.proofs.HeadLaws.{reduced_union-all}
use Rattle.mxf_catalogue.proofs.catalogue.Catalogue.rebuild.Goals as goal

pub into_notes-own-requires-clause-room : goal.into_notes-own-requires-clause-room
into_notes-own-requires-clause-room c =
    subst (λ (p : NoteLists). p.disputed.items ≢ [] → length (union_of p.undisputed.items p.disputed.items) ≤
    vec_capacity c.in-Ok.room.own) (sym c.replace.ensures.value) c.in-Ok.ensures.own

pub returns-clause-merged : goal.returns-clause-merged
returns-clause-merged c =
    let lists = c.self.inside.lists in
    let all = subst IsCatalogue c.self.view_is
    (union_is lists.undisputed.items lists.disputed.items c.self.invariant.kept.parts) in
    let none = c.in-Ok.ensures.lists in
    let own = c.into_notes-own.ensures.notes
    ∙ ap (λ (p : NoteLists). union_of p.undisputed.items p.disputed.items) c.replace.ensures.value ∙ c.self.view_is in
    let others = c.into_notes-others.ensures.notes ∙ c.other.view_is in
    let both = c.of-2.ensures.notes ∙ (λ i. union_of (own i) (others i)) in
    let red = subst AreReduced c.self.view_is c.self.invariant.kept.reduced in
    let lists-2 = c.other.inside.lists in
    let more = subst IsCatalogue c.other.view_is
    (union_is lists-2.undisputed.items lists-2.disputed.items c.other.invariant.kept.parts) in
    c.put_all.ensures.content ∙ (λ i. reduced_union (union_of (none.undisputed.0 i) (none.disputed.0 i)) (both i))
    ∙ reduced_union-all c.args.self.now c.args.other all.content red more.content
