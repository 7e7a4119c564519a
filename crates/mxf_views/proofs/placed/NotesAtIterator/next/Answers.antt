use Rattle.mxf_views.proofs.Common.{◌==◌, ◌∙◌, ap, clear_notes, cons_option, find, NoteParts, rules, sym}
use Rattle.mxf_views.specs.Kept.{notes_at}
use Rattle.mxf_views.proofs.placed.NotesAtIterator.next.Goals as goal

pub returns-in-Some-clear_at-clause-steps : goal.returns-in-Some-clear_at-clause-steps
returns-in-Some-clear_at-clause-steps g c =
    let notes = c.loop-first.self-inside.catalogue.now in
    let key = g.T.Keyed.key in
    let at = ap (λ o. find (λ (n : NoteParts). n.offset == o) (clear_notes notes)) c.key.ensures in
    sym c.loop-first.invariant ∙ ap (notes_at key notes) c.in-Some.ensures.cases.0
    ∙ ap (λ o. cons_option o (notes_at key notes c.in-Some.left.now)) (sym (c.in-Some-clear_at.ensures.first ∙ at))

pub returns-in-Some-clear_at-clause-goes : goal.returns-in-Some-clear_at-clause-goes
returns-in-Some-clear_at-clause-goes g c = search (returns-in-Some-clear_at-clause-steps g c, rules)

pub loop-first-preserved : goal.loop-first-preserved
loop-first-preserved g c =
    let notes = c.loop-first.self-inside.catalogue.now in
    let key = g.T.Keyed.key in
    let at = ap (λ o. find (λ (n : NoteParts). n.offset == o) (clear_notes notes)) c.key.ensures in
    ap (λ o. cons_option o (notes_at key notes c.in-Some.left.now)) (c.in_default-clear_at.ensures.first ∙ at)
    ∙ ap (notes_at key notes) (sym c.in-Some.ensures.cases.0) ∙ c.loop-first.invariant
