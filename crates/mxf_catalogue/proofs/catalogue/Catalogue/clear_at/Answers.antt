use Rattle.std.proofs.Common.{inl, inr, refl, false, ◌≡◌, ◌≢◌, ◌∙◌, ℕ, ap, subst, sym, List, true, Bool}
use Rattle.std.specs.Prelude.{not}
use Rattle.mxf_klv.specs.Parts.{NoteParts}
use Rattle.mxf_klv.specs.Rising.{In}
use Rattle.mxf_catalogue.specs.Content.{union_of}
use Rattle.mxf_catalogue.specs.Disputes.{IsClear, clear_notes}
use Rattle.mxf_catalogue.specs.NoteLists.{AreNoteLists}
use Rattle.mxf_catalogue.proofs.DisputeLaws.{In-clear_notes, SharesByte-same_offset, clear_at-found, clear_at-lacked}
use Rattle.mxf_catalogue.proofs.HeadLaws.{same_note}
use Rattle.mxf_catalogue.proofs.PartLaws.{apart_of, clear_part}
use Rattle.mxf_klv.proofs.Lists.{In-filter}
use Rattle.mxf_catalogue.proofs.catalogue.Catalogue.clear_at.Goals as goal

is_whole : (b : Bool) → not b ≡ false → b ≡ true
is_whole true e = refl
is_whole false e = cc

-- a clear note is a note of the first part that is no head
in_part : (cs ds notes : List NoteParts) (n : NoteParts) → AreNoteLists cs ds → union_of cs ds ≡ notes → IsClear n notes
    → In n cs
in_part cs ds notes n p v h =
    let i = subst (In n) (sym (clear_part cs ds p ∙ ap clear_notes v)) ((In-clear_notes n notes).1 h) in
    ((In-filter (λ m. m.whole) cs n).0 i).0

clear_there : (cs ds notes : List NoteParts) (n : NoteParts) → AreNoteLists cs ds → union_of cs ds ≡ notes → In n cs
    → n.whole ≡ true → IsClear n notes
clear_there cs ds notes n p v h e = (In-clear_notes n notes).0 (subst (In n) (clear_part cs ds p ∙ ap clear_notes v)
    ((In-filter (λ m. m.whole) cs n).1 (h, e)))

-- where a head of the first part stands, no clear note does
head_alone : (cs ds notes : List NoteParts) (m : NoteParts) (offset : ℕ) → AreNoteLists cs ds → union_of cs ds ≡ notes
    → In m cs → m.offset ≡ offset → not m.whole ≡ true → (n : NoteParts) → IsClear n notes → n.offset ≢ offset
head_alone cs ds notes m offset p v h at head n clear e =
    let i = in_part cs ds notes n p v clear in
    elim (same_note n m) [
      | inl q ↦
          let w : n.whole ≡ true = clear.whole in
          let u : m.whole ≡ true = sym (ap (λ (x : NoteParts). x.whole) q) ∙ w in
          cc (u, head)
      | inr ne ↦ apart_of cs ds p n m i h ne (SharesByte-same_offset n m (e ∙ sym at))
    ]

-- where no note of the first part stands, no clear note does
none_there : (cs ds notes some : List NoteParts) (offset : ℕ) → AreNoteLists cs ds → union_of cs ds ≡ notes → some ≡ cs
    → ((n : NoteParts) → In n some → n.offset ≢ offset) → (n : NoteParts) → IsClear n notes → n.offset ≢ offset
none_there cs ds notes some offset p v same none n h = none n (subst (In n) (sym same) (in_part cs ds notes n p v h))

pub returns-in_err-note-clause-none : goal.returns-in_err-note-clause-none
returns-in_err-note-clause-none c =
    let lists = c.self.inside.lists in
    rw c.from_residual.ensures (none_there lists.undisputed.items lists.disputed.items c.args.self.now
    c.deref.result.now
    c.args.offset c.self.invariant.kept.parts c.self.view_is c.deref.ensures.value c.in_err-note.ensures.none)

pub returns-in_err-note-clause-first : goal.returns-in_err-note-clause-first
returns-in_err-note-clause-first c =
    let lists = c.self.inside.lists in
    let none = none_there lists.undisputed.items lists.disputed.items c.args.self.now c.deref.result.now c.args.offset
    c.self.invariant.kept.parts c.self.view_is c.deref.ensures.value c.in_err-note.ensures.none in
    rw c.from_residual.ensures (sym (clear_at-lacked c.args.offset c.args.self.now none))

pub returns-then-is_head-clause-none : goal.returns-then-is_head-clause-none
returns-then-is_head-clause-none c =
    let lists = c.self.inside.lists in
    let m = c.in_ok-note.note.now in
    head_alone lists.undisputed.items lists.disputed.items c.args.self.now m c.args.offset c.self.invariant.kept.parts
    c.self.view_is (subst (In m) c.deref.ensures.value c.in_ok-note.ensures.found.0) c.in_ok-note.ensures.found.1
    (sym c.is_head.ensures ∙ c.if-is_head.true)

pub returns-then-is_head-clause-first : goal.returns-then-is_head-clause-first
returns-then-is_head-clause-first c =
    sym (clear_at-lacked c.args.offset c.args.self.now (returns-then-is_head-clause-none c))

pub returns-else-is_head-clause-found : goal.returns-else-is_head-clause-found
returns-else-is_head-clause-found c =
    let lists = c.self.inside.lists in
    let m = c.in_ok-note.note.now in (
      clear_there lists.undisputed.items lists.disputed.items c.args.self.now m c.self.invariant.kept.parts
          c.self.view_is (subst (In m) c.deref.ensures.value c.in_ok-note.ensures.found.0)
          (is_whole m.whole (sym c.is_head.ensures ∙ c.if-is_head.false)),
      c.in_ok-note.ensures.found.1,
    )

pub returns-else-is_head-clause-first : goal.returns-else-is_head-clause-first
returns-else-is_head-clause-first c =
    let f = returns-else-is_head-clause-found c in
    sym (clear_at-found c.args.offset c.args.self.now c.in_ok-note.note.now f.0 f.1)
