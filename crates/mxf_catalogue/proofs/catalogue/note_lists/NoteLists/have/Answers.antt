use Rattle.mxf_klv.proofs.Common.{sym, subst, inl, inr, In}
use Rattle.mxf_catalogue.proofs.ContentLaws.{In-union_of}
use Rattle.mxf_catalogue.proofs.catalogue.note_lists.NoteLists.have.Goals as goal

pub returns-then-is_in : goal.returns-then-is_in
returns-then-is_in c =
    let n = c.args.note.now in
    let cs = c.args.self.now.undisputed.items in
    let ds = c.args.self.now.disputed.items in (
      λ h. (In-union_of n cs ds).1 (inl (subst (In n) c.deref.ensures.value (c.is_in.ensures.0 h))),
      λ _. c.if-is_in.true,
    )

pub returns-else-is_in : goal.returns-else-is_in
returns-else-is_in c =
    let n = c.args.note.now in
    let cs = c.args.self.now.undisputed.items in
    let ds = c.args.self.now.disputed.items in
    let u = In-union_of n cs ds in
    let other = c.deref-else-is_in.ensures.value in (
      λ h. u.1 (inr (subst (In n) other (c.is_in-else-is_in.ensures.0 h))),
      λ h. elim (u.0 h) [
        | inl i ↦
            let t = c.is_in.ensures.1 (subst (In n) (sym c.deref.ensures.value) i) in
            let f = c.if-is_in.false in cc (t, f)
        | inr i ↦ c.is_in-else-is_in.ensures.1 (subst (In n) (sym other) i)
      ],
    )
