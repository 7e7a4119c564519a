use Rattle.mxf_views.proofs.Common.{◌∙◌, ap, sym, subst, AreApart, then_some}
use Rattle.mxf_views.proofs.StartWalk.{Passed, first_other, none_at, none_left, passed_fill, passed_none}
use Rattle.mxf_views.proofs.copy.start_of.Goals as goal

pub loop-note-init : goal.loop-note-init
loop-note-init c =
    let all = c.clear_within-note-items.ensures in
    let same = c.into_iter-note-iterator.ensures.into_iter_gives in
    passed_none c.args.catalogue.now c.args.end c.into_iter-note-iterator.result all.catalogue (same ∙ all.notes)
    (subst (AreApart 0) (sym same) all.apart)

pub returns-then-offset-reached : goal.returns-then-offset-reached
returns-then-offset-reached c =
    let notes = c.args.catalogue.now in
    let passed = subst (Passed notes c.args.end c.loop-note.reached) c.in-Some.ensures.steps c.loop-note.invariant in
    sym (none_at notes c.args.end c.loop-note.reached c.in-Some.note.now c.next.new.self
    c.clear_within-note-items.ensures.catalogue.content passed
    (λ e. c.if-offset-reached.true (c.offset.ensures.offset ∙ e)))

pub returns-then-not-is_fill : goal.returns-then-not-is_fill
returns-then-not-is_fill c =
    let notes = c.args.catalogue.now in
    let passed = subst (Passed notes c.args.end c.loop-note.reached) c.in-Some.ensures.steps c.loop-note.invariant in
    c.then_some.ensures ∙ ap (λ b. then_some b c.loop-note.reached) c.is_readable_primer.ensures
    ∙ sym (first_other notes c.args.end c.loop-note.reached c.in-Some.note.now c.next.new.self
    c.clear_within-note-items.ensures.catalogue.content passed
    (sym c.offset.ensures.offset ∙ c.if-offset-reached.false) (sym c.if-not-is_fill.ensures))

pub loop-note-preserved : goal.loop-note-preserved
loop-note-preserved c =
    let notes = c.args.catalogue.now in
    let left = c.next.new.self in
    let passed = subst (Passed notes c.args.end c.loop-note.reached) c.in-Some.ensures.steps c.loop-note.invariant in
    subst (λ e. Passed notes c.args.end e left) (sym c.end-reached.ensures)
    (passed_fill notes c.args.end c.loop-note.reached c.in-Some.note.now left passed
    (sym c.offset.ensures.offset ∙ c.if-offset-reached.false) (sym c.if-not-is_fill.ensures))

pub returns : goal.returns
returns c =
    let notes = c.args.catalogue.now in
    let none = c.in-None.ensures.steps.0 in
    sym (none_left notes c.args.end c.loop-note.reached c.clear_within-note-items.ensures.catalogue.content
    (subst (Passed notes c.args.end c.loop-note.reached) none c.loop-note.invariant))
