use Rattle.mxf_klv.proofs.Common.{length, sym, ◌∙◌, ap, subst, ltb-true, lt-ltb, false≢true, NoteParts, In}
use Rattle.mxf_catalogue.proofs.Ranges.{stands_at}
use Rattle.mxf_catalogue.proofs.catalogue.placing.at_offset.Goals.{in_default-via-in-Some+else-offset}
use Rattle.mxf_catalogue.proofs.catalogue.placing.at_offset.Goals.{in_default-via-in_default}
use Rattle.mxf_klv.proofs.Lists.{In-at}
use Rattle.mxf_catalogue.proofs.catalogue.placing.at_offset.Goals as goal

pub returns-in-Some-clause-found : goal.returns-in-Some-clause-found
returns-in-Some-clause-found c =
    let xs = c.args.notes.now in let at = c.starting_below-at.result in let n = c.in-Some.note.now in (
      subst (λ m. In m xs) (sym c.in-Some.ensures.lookup.1)
          (In-at xs at n (ltb-true _ _ (sym c.in-Some.ensures.lookup.0))),
      sym c.offset.ensures.offset ∙ c.if-offset.true,
    )

pub returns-in_default-clause-none : goal.returns-in_default-clause-none
returns-in_default-clause-none c n h e =
    let xs = c.args.notes.now in let at = c.starting_below-at.result in
    elim c.in_default.branch [
      | in_default-via-in-Some+else-offset w ↦
          let s = stands_at xs at c.args.offset n w.in-Some.note.now c.requires c.starting_below-at.ensures.below
          c.starting_below-at.ensures.above h e in
          w.if-offset.false (w.offset.ensures.offset ∙ ap (λ (m : NoteParts). m.offset) w.in-Some.ensures.lookup.1
          ∙ s.1)
      | in_default-via-in_default w ↦
          let s = stands_at xs at c.args.offset n n c.requires c.starting_below-at.ensures.below
          c.starting_below-at.ensures.above h e in
          let t = lt-ltb at (length xs) s.0 in false≢true (w.in_default.ensures.lookup.0 ∙ t)
    ]
