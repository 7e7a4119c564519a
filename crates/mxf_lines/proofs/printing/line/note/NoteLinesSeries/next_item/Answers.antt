use Rattle.mxf_views.proofs.Common.{List, subst, sym, inl, inr, refl, NoteParts, In}
use Rattle.mxf_lines.proofs.printing.line.note.NoteLinesSeries.next_item.Goals as goal

pub is_disputed-disputed-requires : goal.is_disputed-disputed-requires
is_disputed-disputed-requires c =
    let n = c.in_ok-note.note.now in
    c.self.invariant n (subst (λ (ns : List NoteParts). In n ns) (sym c.in_ok-note.ensures.steps) (inl refl))

pub invariant_of-self-2 : goal.invariant_of-self-2
invariant_of-self-2 c =
    λ n h. c.self.invariant n (subst (λ (ns : List NoteParts). In n ns) (sym c.in_ok-note.ensures.steps) (inr h))
