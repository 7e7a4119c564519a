use Rattle.mxf_klv.proofs.Common.{◌∙◌, List, ap, inl, inr, refl, subst, sym, NoteParts, In}
use Rattle.mxf_find.specs.Telling.{tells_in}
use Rattle.mxf_find.specs.Votes.{teller_in}
use Rattle.mxf_find.proofs.CountLaws.{next_mapped}
use Rattle.mxf_find.proofs.fragment.tellers_of.Goals as goal

pub tells-tells-requires : goal.tells-tells-requires
tells-tells-requires c =
    let n = c.in-Some.note.now in
    subst (λ (l : List NoteParts). In n l) (sym c.in_ok-recording.ensures)
    (c.loop-note.invariant.1 n (subst (λ (l : List NoteParts). In n l) (sym c.in-Some.ensures.steps) (inl refl)))

pub loop-note-preserved : goal.loop-note-preserved
loop-note-preserved c =
    let n = c.in-Some.note.now in
    let tells = c.tells-tells.ensures ∙ ap (λ (l : List NoteParts). tells_in l n) c.in_ok-recording.ensures in (
      next_mapped (teller_in c.args.content.now) c.loop-note.tellers.items c.push.new.self.items c.args.content.now
          c.loop-note.note-iterator c.next.new.self n (record { note = n; tells = c.tells-tells.result })
          c.in-Some.ensures.steps (λ i. record { note = n; tells = tells i }) c.in_ok-push.ensures.items
          c.loop-note.invariant.0,
      λ m k. c.loop-note.invariant.1 m (subst (λ (l : List NoteParts). In m l) (sym c.in-Some.ensures.steps) (inr k)),
    )
