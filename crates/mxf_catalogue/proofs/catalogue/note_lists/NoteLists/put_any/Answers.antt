use Rattle.mxf_klv.proofs.Common.{◌≤◌, arith, sym, subst, ◌∙◌, end_of}
use Rattle.mxf_catalogue.proofs.HeadLaws.{reduced_with-present}
use Rattle.mxf_catalogue.specs.Content.{union_of}
use Rattle.mxf_catalogue.specs.Covers.{with_run}
use Rattle.mxf_catalogue.specs.NoteLists.{Covers}
use Rattle.mxf_catalogue.specs.Runs.{run}
use Rattle.mxf_catalogue.proofs.ContentLaws.{IsContent-union_of}
use Rattle.mxf_catalogue.proofs.KeptLaws.{above_new, covers_with}
use Rattle.mxf_klv.proofs.Lists.{length-filter_le}
use Rattle.mxf_catalogue.proofs.catalogue.note_lists.NoteLists.put_any.Goals as goal

pub returns-then-tell-clause-content : goal.returns-then-tell-clause-content
returns-then-tell-clause-content c =
    let cs = c.args.self.now.undisputed.items in
    let ds = c.args.self.now.disputed.items in
    let rises = IsContent-union_of cs ds c.requires.whole.kept.parts.undisputed_is.content in
    sym (reduced_with-present c.args.note (union_of cs ds) rises c.requires.whole.kept.reduced
    (c.tell.ensures.0 c.if-tell.true))

pub append-requires-clause-above : goal.append-requires-clause-above
append-requires-clause-above c n h =
    let l : end_of n ≤ c.offset-3.result = c.end_by.ensures.0 c.if-end_by.true n h in
    let o = c.offset-3.ensures.offset in omega (arith, l, o)

pub returns-then-end_by-clause-whole : goal.returns-then-end_by-clause-whole
returns-then-end_by-clause-whole c =
    let n = c.args.note in
    let cs = c.args.self.now.undisputed.items in
    let ds = c.args.self.now.disputed.items in
    let old = c.args.runs.now.items in
    let new = union_of c.append.new.self.undisputed.items c.append.new.self.disputed.items in
    let runs = c.put_run.ensures.items ∙ (λ i. with_run (run (c.offset-2.ensures.offset i)
    (c.covered_end.ensures.covered i)) old) in
    let o = c.offset-3.ensures.offset in
    let fresh = above_new n (union_of cs ds) (λ m h.
    let l : end_of m ≤ c.offset-3.result = c.end_by.ensures.0 c.if-end_by.true m h in omega (arith, l, o)) in
    record {
      kept = c.append.ensures.kept;
      covers = subst (λ r. Covers r new) (sym runs)
          (covers_with n cs ds new old c.requires.whole.kept.reduced fresh c.requires.whole.covers
          c.append.ensures.content);
    }

pub put-requires-clause-new : goal.put-requires-clause-new
put-requires-clause-new c h = let t = c.tell.ensures.1 h in let f = c.if-tell.false in cc (t, f)

pub put-requires-clause-room : goal.put-requires-clause-room
put-requires-clause-room c = grind (arith, length-filter_le)

pub returns-clause-whole : goal.returns-clause-whole
returns-clause-whole c =
    let cs = c.args.self.now.undisputed.items in
    let ds = c.args.self.now.disputed.items in
    let old = c.args.runs.now.items in
    let new = union_of c.put.new.self.undisputed.items c.put.new.self.disputed.items in
    let runs = c.put_run-2.ensures.items ∙ (λ i. with_run (run (c.offset-2.ensures.offset i)
    (c.covered_end.ensures.covered i)) old) in
    record {
      kept = c.put.ensures.kept;
      covers = subst (λ r. Covers r new) (sym runs) (covers_with c.args.note cs ds new old c.requires.whole.kept.reduced
          (λ h. let t = c.tell.ensures.1 h in let f = c.if-tell.false in cc (t, f)) c.requires.whole.covers
          c.put.ensures.content);
    }
