use Rattle.std.proofs.Common.{sym, ◌∙◌, ap, inl, subst}
use Rattle.mxf_catalogue.specs.Content.{union_of}
use Rattle.mxf_catalogue.specs.NoteLists.{AreKeptLists}
use Rattle.mxf_catalogue.proofs.ContentLaws.{In-union_of, IsContent-union_of}
use Rattle.mxf_catalogue.proofs.HeadLaws.{reduced_with-new}
use Rattle.mxf_catalogue.proofs.KeptLaws.{above_alone, above_far, above_last, above_new, kept_with_clear}
use Rattle.mxf_catalogue.proofs.PartLaws.{view_with_clear}
use Rattle.mxf_catalogue.proofs.catalogue.note_lists.NoteLists.append.Goals as goal

pub returns-clause-kept : goal.returns-clause-kept
returns-clause-kept c =
    let n = c.args.note in
    let cs = c.args.self.now.undisputed.items in
    let ds = c.args.self.now.disputed.items in
    let few = c.args.self.now.disputed_spans.items in
    let above = c.requires.above in
    let items = c.push_reserved.ensures.items ∙ above_last n cs (λ m h. above m ((In-union_of m cs ds).1 (inl h))) in
    subst (λ l. AreKeptLists l ds few) (sym items)
    (kept_with_clear n cs ds few c.offset.ensures.note c.requires.kept (above_new n (union_of cs ds) above)
    (above_alone n (union_of cs ds) above) (λ m h. above_far n m (above m h)))

pub returns-clause-content : goal.returns-clause-content
returns-clause-content c =
    let n = c.args.note in
    let cs = c.args.self.now.undisputed.items in
    let ds = c.args.self.now.disputed.items in
    let above = c.requires.above in
    let items = c.push_reserved.ensures.items ∙ above_last n cs (λ m h. above m ((In-union_of m cs ds).1 (inl h))) in
    ap (λ l. union_of l ds) items ∙ view_with_clear n cs ds c.requires.kept.parts
    ∙ sym (reduced_with-new n (union_of cs ds)
    (IsContent-union_of cs ds c.requires.kept.parts.undisputed_is.content) c.requires.kept.reduced
    (above_new n (union_of cs ds) above) (above_alone n (union_of cs ds) above))
