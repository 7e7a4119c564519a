use Rattle.mxf_klv.proofs.Common.{◌≡◌, ◌≤◌, ◌∙◌, [], IfOk, ap, arith, refl, sym, subst, List, IfOk-weaker, end_of, In}
use Rattle.mxf_klv.proofs.Common.{NoteParts}
use Rattle.std.proofs.lemmas.Result.{on_ok_weaker}
use Rattle.mxf_catalogue.specs.Moved.{TellsMoved}
use Rattle.mxf_catalogue.specs.declared.catalogue.change.Change.{Change}
use Rattle.mxf_catalogue.specs.declared.catalogue.change.Change.TheVariants.{Repeated, Added}
use Rattle.mxf_catalogue.proofs.HeadLaws.{reduced_with-present}
use Rattle.mxf_catalogue.specs.Content.{AreReduced, IsCatalogue, has_note, reduced_with, union_of}
use Rattle.mxf_catalogue.specs.Covers.{with_run}
use Rattle.mxf_catalogue.specs.NoteLists.{Covers, moved_by}
use Rattle.mxf_catalogue.specs.Runs.{run}
use Rattle.mxf_catalogue.proofs.KeptLaws.{above_moves_none, above_new, covers_with, union_is}
use Rattle.mxf_catalogue.proofs.PartLaws.{moved_part}
use Rattle.mxf_catalogue.proofs.catalogue.Catalogue.add.Goals as goal

pub append-requires : goal.append-requires
append-requires c =
    let o = c.offset.ensures.offset in
    record {
      above = λ n h.
          let l : end_of n ≤ c.offset.result = c.end_by.ensures.0 c.if-end_by.true n
          (subst (λ (l : List NoteParts). In n l) (sym c.self.view_is) h) in
          omega (arith, l, o);
    }

pub returns-then-end_by-clause-repeated : goal.returns-then-end_by-clause-repeated
returns-then-end_by-clause-repeated c =
    let n = c.args.note in
    let o = c.offset.ensures.offset in
    let above : (m : NoteParts) → In m c.args.self.now → end_of m ≤ n.offset = λ m h.
    let l : end_of m ≤ c.offset.result = c.end_by.ensures.0 c.if-end_by.true m
    (subst (λ (l : List NoteParts). In m l) (sym c.self.view_is) h) in omega (arith, l, o) in (
      λ e.
          let t : Repeated ≡ Added [] = subst (λ r. IfOk r (λ (x : Change). x ≡ Added [])) e c.append.ensures.new in
          absurd (cc (t)),
      λ h. absurd (above_new n c.args.self.now above h),
    )

pub returns-then-end_by-clause-moved : goal.returns-then-end_by-clause-moved
returns-then-end_by-clause-moved c =
    let n = c.args.note in
    let lists = c.self.inside.lists in
    let o = c.offset.ensures.offset in
    let none = above_moves_none n lists.undisputed.items lists.disputed.items c.self.invariant.kept.parts
    c.self.invariant.kept.reduced (λ m h.
    let l : end_of m ≤ c.offset.result = c.end_by.ensures.0 c.if-end_by.true m h in omega (arith, l, o))
    ∙ ap (moved_by n) c.self.view_is in
    IfOk-weaker c.append.result (λ (x : Change). x ≡ Added []) (TellsMoved n c.args.self.now)
    (λ x e. subst (TellsMoved n c.args.self.now) (sym e) none) c.append.ensures.new

pub returns-then-tell-clause-added : goal.returns-then-tell-clause-added
returns-then-tell-clause-added c =
    let lists = c.self.inside.lists in
    let all = subst IsCatalogue c.self.view_is
    (union_is lists.undisputed.items lists.disputed.items c.self.invariant.kept.parts) in
    let held = subst (λ (l : List NoteParts). has_note l c.args.note) c.self.view_is
    (c.tell.ensures.0 c.if-tell.true) in
    let red = subst AreReduced c.self.view_is c.self.invariant.kept.reduced in
    sym (reduced_with-present c.args.note c.args.self.now all.content red held)

pub returns-then-tell-clause-history : goal.returns-then-tell-clause-history
returns-then-tell-clause-history c h e = returns-then-tell-clause-added c ∙ ap (reduced_with c.args.note) e

pub invariant_of-self-2 : goal.invariant_of-self-2
invariant_of-self-2 c =
    let lists = c.self.inside.lists in
    let old = c.self.inside.spans in
    let cs = lists.undisputed.items in
    let ds = lists.disputed.items in
    let new = union_of c.put.new.self.undisputed.items c.put.new.self.disputed.items in
    let items : union_of c.make_room.new.self.undisputed.items c.make_room.new.self.disputed.items ≡ union_of cs ds =
    λ i. union_of (c.in-Ok.ensures.same.undisputed i) (c.in-Ok.ensures.same.disputed i) in
    let all = c.put.ensures.content ∙ ap (reduced_with c.args.note) items in
    let fresh : has_note (union_of cs ds) c.args.note → ⊥ = λ h.
    let t = c.tell.ensures.1 h in let f = c.if-tell.false in cc (t, f) in
    let runs = c.in-Ok-add.ensures.added
    ∙ (λ i. with_run (run (c.offset-2.ensures.offset i) (c.covered_end.ensures.covered i)) old) in
    record {
      kept = c.put.ensures.kept;
      covers = subst (λ r. Covers r new) (sym runs)
          (covers_with c.args.note cs ds new old c.self.invariant.kept.reduced fresh c.self.invariant.covers all);
    }

pub returns-clause-moved : goal.returns-clause-moved
returns-clause-moved c =
    let n = c.args.note in
    let cs = c.self.inside.lists.undisputed.items in
    let ds = c.self.inside.lists.disputed.items in
    let fresh : has_note (union_of cs ds) n → ⊥ = λ h.
    let t = c.tell.ensures.1 h in
    let f = c.if-tell.false in cc (t, f) in
    c.in-Ok.ensures.moved ∙ moved_part n cs ds c.self.invariant.kept.parts c.self.invariant.kept.reduced fresh
    ∙ ap (moved_by n) c.self.view_is

pub returns-then-tell-clause-repeated : goal.returns-then-tell-clause-repeated
returns-then-tell-clause-repeated c = (
  λ _. subst (λ (l : List NoteParts). has_note l c.args.note) c.self.view_is (c.tell.ensures.0 c.if-tell.true),
  λ _. refl,
)

pub returns-in_default-clause-repeated : goal.returns-in_default-clause-repeated
returns-in_default-clause-repeated c = (
  λ e. absurd (cc (e)),
  λ h.
      let t = c.tell.ensures.1 (subst (λ (l : List NoteParts). has_note l c.args.note) (sym c.self.view_is) h) in
      let f = c.if-tell.false in absurd (cc (t, f)),
)

pub returns-clause-repeated : goal.returns-clause-repeated
returns-clause-repeated c = (
  λ e. absurd (cc (e)),
  λ h.
      let t = c.tell.ensures.1 (subst (λ (l : List NoteParts). has_note l c.args.note) (sym c.self.view_is) h) in
      let f = c.if-tell.false in absurd (cc (t, f)),
)

pub returns-then-end_by-clause-history : goal.returns-then-end_by-clause-history
returns-then-end_by-clause-history c h e = grind (arith, on_ok_weaker)

pub returns-clause-added : goal.returns-clause-added
returns-clause-added c = grind arith

pub returns-clause-history : goal.returns-clause-history
returns-clause-history c h e = returns-clause-added c ∙ ap (reduced_with c.args.note) e
