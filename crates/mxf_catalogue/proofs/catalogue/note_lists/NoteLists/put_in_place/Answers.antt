use Rattle.mxf_klv.proofs.Common.{sym, ◌∙◌, ap, subst, inl, inr, head_note, In}
use Rattle.mxf_catalogue.specs.Content.{union_of}
use Rattle.mxf_catalogue.specs.NoteLists.{AreKeptLists}
use Rattle.mxf_catalogue.proofs.ContentLaws.{In-union_of}
use Rattle.mxf_catalogue.proofs.HeadLaws.{AreReduced-part}
use Rattle.mxf_catalogue.proofs.KeptLaws.{kept_swap_clear, kept_swap_disputed}
use Rattle.mxf_catalogue.proofs.PartLaws.{view_swap_clear, view_swap_disputed}
use Rattle.mxf_catalogue.proofs.catalogue.note_lists.NoteLists.put_in_place.Goals as goal

pub put_over_head-requires-clause-reduced : goal.put_over_head-requires-clause-reduced
put_over_head-requires-clause-reduced c =
    let cs = c.args.self.now.undisputed.items in
    let ds = c.args.self.now.disputed.items in
    AreReduced-part cs (union_of cs ds) (λ n h. (In-union_of n cs ds).1 (inl h)) c.requires.kept.reduced

pub put_over_head-requires-clause-new : goal.put_over_head-requires-clause-new
put_over_head-requires-clause-new c h =
    c.requires.new (inl ((In-union_of c.args.note c.args.self.now.undisputed.items c.args.self.now.disputed.items).1
    (inl h)))

pub put_over_head-requires-else-is_in-clause-reduced : goal.put_over_head-requires-else-is_in-clause-reduced
put_over_head-requires-else-is_in-clause-reduced c =
    let cs = c.args.self.now.undisputed.items in
    let ds = c.args.self.now.disputed.items in
    AreReduced-part ds (union_of cs ds) (λ n h. (In-union_of n cs ds).1 (inr h)) c.requires.kept.reduced

pub put_over_head-requires-else-is_in-clause-head : goal.put_over_head-requires-else-is_in-clause-head
put_over_head-requires-else-is_in-clause-head c =
    let n = c.args.note in
    let cs = c.args.self.now.undisputed.items in
    let ds = c.args.self.now.disputed.items in
    elim ((In-union_of (head_note n) cs ds).0 c.requires.head) [
      | inl i ↦
          let t = c.is_in-2.ensures.1 (rw (c.deref.ensures.value, c.to_head.ensures) i) in
          let f = c.if-is_in.false in absurd (cc (t, f))
      | inr i ↦ i
    ]

pub put_over_head-requires-else-is_in-clause-new : goal.put_over_head-requires-else-is_in-clause-new
put_over_head-requires-else-is_in-clause-new c h =
    c.requires.new (inl ((In-union_of c.args.note c.args.self.now.undisputed.items c.args.self.now.disputed.items).1
    (inr h)))

pub returns-then-is_in-clause-kept : goal.returns-then-is_in-clause-kept
returns-then-is_in-clause-kept c =
    let n = c.args.note in
    let cs = c.args.self.now.undisputed.items in
    let ds = c.args.self.now.disputed.items in
    let few = c.args.self.now.disputed_spans.items in
    let there = rw (c.deref.ensures.value, c.to_head.ensures) at (c.is_in-2.ensures.0 c.if-is_in.true) in
    subst (λ l. AreKeptLists l ds few) (sym c.put_over_head.ensures.items)
    (kept_swap_clear n cs ds few c.offset.ensures.note c.requires.kept c.requires.new there)

pub returns-then-is_in-clause-content : goal.returns-then-is_in-clause-content
returns-then-is_in-clause-content c =
    let n = c.args.note in
    let cs = c.args.self.now.undisputed.items in
    let ds = c.args.self.now.disputed.items in
    let there = rw (c.deref.ensures.value, c.to_head.ensures) at (c.is_in-2.ensures.0 c.if-is_in.true) in
    ap (λ l. union_of l ds) c.put_over_head.ensures.items
    ∙ view_swap_clear n cs ds c.offset.ensures.note c.requires.kept.parts c.requires.kept.reduced c.requires.new there

pub returns-else-is_in-clause-kept : goal.returns-else-is_in-clause-kept
returns-else-is_in-clause-kept c =
    let n = c.args.note in
    let cs = c.args.self.now.undisputed.items in
    let ds = c.args.self.now.disputed.items in
    let few = c.args.self.now.disputed_spans.items in
    let there : In (head_note n) ds = elim ((In-union_of (head_note n) cs ds).0 c.requires.head) [
      | inl i ↦
          let t = c.is_in-2.ensures.1 (rw (c.deref.ensures.value, c.to_head.ensures) i) in
          let f = c.if-is_in.false in absurd (cc (t, f))
      | inr i ↦ i
    ] in
    subst (λ l. AreKeptLists cs l few) (sym c.put_over_head-else-is_in.ensures.items)
    (kept_swap_disputed n cs ds few c.offset.ensures.note c.requires.kept c.requires.new there)

pub returns-else-is_in-clause-content : goal.returns-else-is_in-clause-content
returns-else-is_in-clause-content c =
    let n = c.args.note in
    let cs = c.args.self.now.undisputed.items in
    let ds = c.args.self.now.disputed.items in
    let there : In (head_note n) ds = elim ((In-union_of (head_note n) cs ds).0 c.requires.head) [
      | inl i ↦
          let t = c.is_in-2.ensures.1 (rw (c.deref.ensures.value, c.to_head.ensures) i) in
          let f = c.if-is_in.false in absurd (cc (t, f))
      | inr i ↦ i
    ] in
    ap (λ l. union_of cs l) c.put_over_head-else-is_in.ensures.items
    ∙ view_swap_disputed n cs ds c.offset.ensures.note c.requires.kept.parts c.requires.kept.reduced c.requires.new
    there
