use Rattle.std.proofs.Common.{arith}
use Rattle.mxf_catalogue.proofs.MarkLaws.{left_behind, stands_in}
use Rattle.mxf_catalogue.proofs.catalogue.disputed.DisputedNotesIterator.next.Goals as goal
use Rattle.mxf_catalogue.proofs.catalogue.disputed.DisputedNotesIterator.next.Goals.{then-offset-self, else-offset-self}

pub mark-disputed-requires : goal.mark-disputed-requires
mark-disputed-requires c =
    let e = c.in_ok-note.ensures.cases.0 in
    let o = c.offset.ensures.offset in
    elim c.if-offset-self.branch [
      | then-offset-self w ↦ stands_in c.in_ok-note.note.now _ _ _ _ _ _ c.self.invariant e c.if-offset-self.lower
          (λ _. omega (arith, w.lower-is)) (λ l. absurd (omega (arith, l, o, w.if-offset-self.true)))
      | else-offset-self w ↦ stands_in c.in_ok-note.note.now _ _ _ _ _ _ c.self.invariant e c.if-offset-self.lower
          (λ l. absurd (omega (arith, l, o, w.if-offset-self.false))) (λ _. omega (arith, w.lower-is))
    ]

pub invariant_of-self : goal.invariant_of-self
invariant_of-self c = grind (arith, left_behind)
