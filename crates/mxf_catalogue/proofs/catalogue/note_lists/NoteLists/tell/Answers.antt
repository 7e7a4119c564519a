use Rattle.std.proofs.Common.{sym, subst, inl, inr}
use Rattle.mxf_catalogue.specs.Content.{has_note}
use Rattle.mxf_catalogue.proofs.HeadLaws.{has-union_of}
use Rattle.mxf_catalogue.proofs.catalogue.note_lists.NoteLists.tell.Goals as goal

pub returns-then-tell : goal.returns-then-tell
returns-then-tell c =
    let n = c.args.note.now in
    let cs = c.args.self.now.undisputed.items in
    let ds = c.args.self.now.disputed.items in (
      λ h. (has-union_of n cs ds).1 (inl (subst (λ l. has_note l n) c.deref.ensures.value (c.tell.ensures.0 h))),
      λ _. c.if-tell.true,
    )

pub returns-else-tell : goal.returns-else-tell
returns-else-tell c =
    let n = c.args.note.now in
    let cs = c.args.self.now.undisputed.items in
    let ds = c.args.self.now.disputed.items in
    let u = has-union_of n cs ds in
    let other = c.deref-else-tell.ensures.value in (
      λ h. u.1 (inr (subst (λ l. has_note l n) other (c.tell-else-tell.ensures.0 h))),
      λ h. elim (u.0 h) [
        | inl i ↦
            let t = c.tell.ensures.1 (subst (λ l. has_note l n) (sym c.deref.ensures.value) i) in
            let f = c.if-tell.false in cc (t, f)
        | inr i ↦ c.tell-else-tell.ensures.1 (subst (λ l. has_note l n) (sym other) i)
      ],
    )
