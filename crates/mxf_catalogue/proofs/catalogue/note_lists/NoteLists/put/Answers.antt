use Rattle.std.proofs.Common.{sym, ◌∙◌, ap, subst, map}
use Rattle.mxf_klv.specs.Rising.{In}
use Rattle.mxf_catalogue.specs.Content.{with_note, union_of}
use Rattle.mxf_catalogue.proofs.ContentLaws.{IsContent-union_of}
use Rattle.mxf_catalogue.proofs.HeadLaws.{reduced_with-new}
use Rattle.mxf_catalogue.specs.Covers.{IsRun, with_run, spanned}
use Rattle.mxf_catalogue.specs.NoteLists.{AreKeptLists, StandApart, away_from, disputed_with, run_of, touching}
use Rattle.mxf_catalogue.proofs.KeptLaws.{hull-IsRun, kept_with_clear, kept_with_disputed}
use Rattle.mxf_catalogue.proofs.PartLaws.{apart_of, view_with_clear, view_with_disputed}
use Rattle.mxf_catalogue.proofs.catalogue.note_lists.NoteLists.put.Goals as goal

pub touched-requires-clause-apart : goal.touched-requires-clause-apart
touched-requires-clause-apart c =
    subst StandApart (sym c.deref.ensures.value) (apart_of _ c.args.self.now.disputed.items c.requires.kept.parts)

pub move_touched-requires-clause-apart : goal.move_touched-requires-clause-apart
move_touched-requires-clause-apart c = apart_of _ c.args.self.now.disputed.items c.requires.kept.parts

pub put_run-requires-clause-run : goal.put_run-requires-clause-run
put_run-requires-clause-run c =
    let n = c.args.note in
    let cs = c.args.self.now.undisputed.items in
    let touched = c.touched.ensures ∙ ap (touching n) c.deref.ensures.value in
    let hull = c.hull-hull.ensures ∙ ap (λ l. spanned (run_of n) (map run_of l)) touched in
    subst IsRun (sym hull) (hull-IsRun n cs c.args.self.now.disputed.items c.offset.ensures.note c.requires.kept.parts)

pub returns-then-are_apart_from-clause-kept : goal.returns-then-are_apart_from-clause-kept
returns-then-are_apart_from-clause-kept c =
    let n = c.args.note in
    let cs = c.args.self.now.undisputed.items in
    let ds = c.args.self.now.disputed.items in
    let few = c.args.self.now.disputed_spans.items in
    subst (λ l. AreKeptLists l ds few) (sym c.put.ensures.items)
    (kept_with_clear n cs ds few c.offset.ensures.note c.requires.kept c.requires.new (λ h.
    let t = c.have-2.ensures.1 (subst (λ m. In m (union_of cs ds)) (sym c.to_head.ensures) h) in
    let f = c.if-have.false in cc (t, f)) (c.are_apart_from.ensures.far c.if-are_apart_from.true))

pub returns-then-are_apart_from-clause-content : goal.returns-then-are_apart_from-clause-content
returns-then-are_apart_from-clause-content c =
    let cs = c.args.self.now.undisputed.items in
    let ds = c.args.self.now.disputed.items in
    ap (λ l. union_of l ds) c.put.ensures.items ∙ view_with_clear c.args.note cs ds c.requires.kept.parts
    ∙ sym (reduced_with-new c.args.note (union_of cs ds)
    (IsContent-union_of cs ds c.requires.kept.parts.undisputed_is.content) c.requires.kept.reduced c.requires.new (λ h.
    let t = c.have-2.ensures.1 (subst (λ m. In m (union_of cs ds)) (sym c.to_head.ensures) h) in
    let f = c.if-have.false in cc (t, f)))

pub returns-clause-kept : goal.returns-clause-kept
returns-clause-kept c =
    let n = c.args.note in
    let cs = c.args.self.now.undisputed.items in
    let ds = c.args.self.now.disputed.items in
    let few = c.args.self.now.disputed_spans.items in
    let disputed = c.put-2.ensures.items ∙ ap (with_note n) c.move_touched.ensures.moved in
    let touched = c.touched.ensures ∙ ap (touching n) c.deref.ensures.value in
    let hull = c.hull-hull.ensures ∙ ap (λ l. spanned (run_of n) (map run_of l)) touched in
    let spans = c.put_run.ensures.items ∙ ap (λ r. with_run r few) hull in
    subst (λ l. AreKeptLists l c.put-2.new.notes.items c.put_run.new.runs.items) (sym c.move_touched.ensures.left)
    (subst (λ l. AreKeptLists (away_from n cs) l c.put_run.new.runs.items) (sym disputed)
    (subst (λ l. AreKeptLists (away_from n cs) (disputed_with n cs ds) l) (sym spans)
    (kept_with_disputed n cs ds few c.offset.ensures.note c.requires.kept c.requires.new (λ h.
    let t = c.have-2.ensures.1 (subst (λ m. In m (union_of cs ds)) (sym c.to_head.ensures) h) in
    let f = c.if-have.false in cc (t, f)) (c.are_apart_from.ensures.near c.if-are_apart_from.false))))

pub returns-clause-content : goal.returns-clause-content
returns-clause-content c =
    let n = c.args.note in
    let cs = c.args.self.now.undisputed.items in
    let ds = c.args.self.now.disputed.items in
    let disputed = c.put-2.ensures.items ∙ ap (with_note n) c.move_touched.ensures.moved in
    (λ i. union_of (c.move_touched.ensures.left i) (disputed i)) ∙ view_with_disputed n cs ds c.requires.kept.parts
    ∙ sym (reduced_with-new c.args.note (union_of cs ds)
    (IsContent-union_of cs ds c.requires.kept.parts.undisputed_is.content) c.requires.kept.reduced c.requires.new (λ h.
    let t = c.have-2.ensures.1 (subst (λ m. In m (union_of cs ds)) (sym c.to_head.ensures) h) in
    let f = c.if-have.false in cc (t, f)))

pub put_in_place-requires-clause-head : goal.put_in_place-requires-clause-head
put_in_place-requires-clause-head c =
    let all = union_of c.args.self.now.undisputed.items c.args.self.now.disputed.items in
    subst (λ m. In m all) c.to_head.ensures (c.have-2.ensures.0 c.if-have.true)
