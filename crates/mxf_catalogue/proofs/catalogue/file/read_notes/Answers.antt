use Rattle.mxf_klv.proofs.Common.{◌+◌, ◌++◌, ◌∷◌, ◌∙◌, [], List, arith, ap, refl, sym, subst, length, length-append}
use Rattle.mxf_klv.proofs.Common.{err_from_is_err_and, NoteParts}
use Rattle.std.specs.Prelude.{IsTrue}
use Rattle.mxf_catalogue.specs.Content.{IsContent}
use Rattle.mxf_catalogue.specs.CatalogueFile.{IsFront, IsHeadLast}
use Rattle.mxf_catalogue.proofs.FileBytes.{front_next, front_place}
use Rattle.mxf_catalogue.proofs.HeadLaws.{AreReduced-push}
use Rattle.mxf_catalogue.proofs.FileParts.{is_some, note_fault, stops}
use Rattle.mxf_catalogue.proofs.catalogue.file.read_notes.Goals as goal

pub overflow_sub-place : goal.overflow_sub-place
overflow_sub-place c = search (arith, front_place)

pub returns-in_err-note-clause-fault : goal.returns-in_err-note-clause-fault
returns-in_err-note-clause-fault c = grind (arith, err_from_is_err_and, note_fault)

pub returns-then-not-is_above-clause-fault : goal.returns-then-not-is_above-clause-fault
returns-then-not-is_above-clause-fault c =
    let i = c.loop-i.invariant in
    let n = c.in_ok-note.note in
    stops c.args.start.version c.args.bytes.now c.loop-i.rest.now c.args.start.count _ c.loop-i.notes.items _ i.front
    refl (
      omega (arith, i.counted, c.loop-i-test.true),
      (
        n,
        c.in_ok-note.after.now,
        c.in_ok-note.ensures.note,
        λ h. (let t : IsTrue c.is_above.result = c.is_above.ensures.1
            (subst (λ (l : List NoteParts). IsContent (l ++ n ∷ [])) (sym c.deref.ensures.value) h) in absurd
            (cc (t, c.if-not-is_above.true))),
      ),
    )

pub returns-then-not-is_empty-clause-fault : goal.returns-then-not-is_empty-clause-fault
returns-then-not-is_empty-clause-fault c = grind (arith, is_some, stops)

pub returns-then-replaces_last-clause-fault : goal.returns-then-replaces_last-clause-fault
returns-then-replaces_last-clause-fault c =
    let i = c.loop-i.invariant in
    let n = c.in_ok-note.note in
    stops c.args.start.version c.args.bytes.now c.loop-i.rest.now c.args.start.count _ c.loop-i.notes.items _ i.front
    refl (
      omega (arith, i.counted, c.loop-i-test.true),
      (
        n,
        c.in_ok-note.after.now,
        c.in_ok-note.ensures.note,
        subst (λ (l : List NoteParts). IsContent (l ++ n ∷ [])) c.deref.ensures.value
            (c.is_above.ensures.0 c.if-not-is_above.false),
        subst (λ (l : List NoteParts). IsHeadLast l n) c.deref-in-loop-i.ensures.value
            (c.replaces_last.ensures.last c.if-replaces_last.true),
      ),
    )

pub loop-i-preserved : goal.loop-i-preserved
loop-i-preserved c =
    let i = c.loop-i.invariant in
    let n = c.in_ok-note.note in
    let notes = c.loop-i.notes.items in
    let rises = subst (λ (l : List NoteParts). IsContent (l ++ n ∷ [])) c.deref.ensures.value
    (c.is_above.ensures.0 c.if-not-is_above.false) in
    let none : (IsHeadLast notes n → ⊥) = λ h. c.replaces_last.ensures.none c.if-replaces_last.false
    (subst (λ (l : List NoteParts). IsHeadLast l n) (sym c.deref-in-loop-i.ensures.value) h) in
    let red = AreReduced-push notes n rises i.front.reduced
    (λ front l e t. none (front, e ∙ ap (λ h. front ++ h ∷ []) (sym t))) in
    let items = c.in_ok-push.ensures.items in
    record {
      front = subst (λ (l : List NoteParts). IsFront c.args.start.version c.args.bytes.now c.args.start.count l
          c.in_ok-note.after.now) (sym items)
          (front_next c.args.start.version c.args.bytes.now c.loop-i.rest.now c.in_ok-note.after.now c.args.start.count
          notes n i.front (omega (arith, i.counted, c.loop-i-test.true)) c.in_ok-note.ensures.note rises red);
      counted = ap length items ∙ length-append notes (n ∷ []) ∙ ap (λ k. k + 1) i.counted;
    }
