use Rattle.mxf_klv.proofs.Common.{◌≡◌, ◌==◌, ◌+◌, ◌-◌, ◌≤◌, Bool, not, true, false, length, refl, arith, sym, ◌∙◌, ap}
use Rattle.mxf_klv.proofs.Common.{subst, end_of}
use Rattle.mxf_catalogue.specs.NoteLists.{StandApart, touching}
use Rattle.mxf_catalogue.specs.Runs.{LiesIn}
use Rattle.mxf_catalogue.proofs.PartLaws.{apart_of, is_nil, is_not_nil}
use Rattle.mxf_catalogue.proofs.KeptLaws.{far_from_all, near_disputed, near_clear}
use Rattle.mxf_klv.proofs.Tests.{not-true-false}
use Rattle.mxf_catalogue.proofs.catalogue.note_lists.NoteLists.are_apart_from.Goals as goal

of_not_false : (b : Bool) → not b ≡ false → b ≡ true
of_not_false true e = refl
of_not_false false e = cc

pub touched-requires-clause-apart : goal.touched-requires-clause-apart
touched-requires-clause-apart c =
    subst StandApart (sym c.deref.ensures.value) (apart_of _ c.args.self.now.disputed.items c.requires.parts)

pub returns-then-is_empty-clause-far : goal.returns-then-is_empty-clause-far
returns-then-is_empty-clause-far c t =
    let n = c.args.note.now in
    let cs = c.args.self.now.undisputed.items in
    let ds = c.args.self.now.disputed.items in
    let few = c.args.self.now.disputed_spans.items in
    let touched = c.touched.ensures ∙ ap (touching n) c.deref.ensures.value in
    let none = is_nil (touching n cs)
    (subst (λ l. (length l == 0) ≡ true) touched (sym c.is_empty.ensures ∙ c.if-is_empty.true)) in
    let o = c.offset.ensures.offset in
    let e = c.end.ensures in
    far_from_all n cs ds few c.requires.parts c.requires.covers none (λ h.
    let a : n.offset ≤ h.0 = h.2 in
    let b : h.0 + 1 ≤ end_of n = h.3 in
    let lies = subst (λ l. LiesIn l h.0) (sym c.deref-then-is_empty.ensures.value) h.1 in
    not-true-false c.meets.result t (c.meets.ensures.1 (h.0, lies, omega arith, omega arith)))

pub returns-then-is_empty-clause-near : goal.returns-then-is_empty-clause-near
returns-then-is_empty-clause-near c t =
    let n = c.args.note.now in
    let h = c.meets.ensures.0 (of_not_false c.meets.result t) in
    let o = c.offset.ensures.offset in
    let e = c.end.ensures in
    let a : c.offset.result ≤ h.0 = h.2 in
    let b : h.0 ≤ c.end.result - 1 = h.3 in
    let lies = subst (λ l. LiesIn l h.0) c.deref-then-is_empty.ensures.value h.1 in
    near_disputed n c.args.self.now.undisputed.items c.args.self.now.disputed.items c.args.self.now.disputed_spans.items
    c.requires.covers (h.0, lies, omega arith, omega arith)

pub returns-else-is_empty-clause-near : goal.returns-else-is_empty-clause-near
returns-else-is_empty-clause-near c t =
    let n = c.args.note.now in
    let touched = c.touched.ensures ∙ ap (touching n) c.deref.ensures.value in
    near_clear n c.args.self.now.undisputed.items c.args.self.now.disputed.items
    (is_not_nil _ (subst (λ l. (length l == 0) ≡ false) touched (sym c.is_empty.ensures ∙ c.if-is_empty.false)))
