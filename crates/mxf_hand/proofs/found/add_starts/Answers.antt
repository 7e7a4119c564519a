use Rattle.mxf_views.proofs.Common.{◌∙◌, ◌+◌, List, inl, inr, subst, NoteParts, with_run, run}
use Rattle.mxf_hand.specs.Finding.{IsStart}
use Rattle.mxf_hand.proofs.FindingLaws.{start_added}
use Rattle.mxf_hand.proofs.found.add_starts.Goals as goal

pub loop-note-preserved : goal.loop-note-preserved
loop-note-preserved c = λ x.
    let added = c.in_ok-add.ensures.added
    ∙ (λ i. with_run (run (c.offset.ensures.offset i) (c.offset-in-loop-note.ensures.offset i + 1)) c.loop-note.starts)
    in
    let step = start_added c.loop-note.starts c.add.new.self c.loop-note.note-iterator c.next.new.self c.in-Some.note.now
    added c.in-Some.ensures.steps x in
    (λ h. (c.loop-note.invariant x).0 (step.0 h), λ h. step.1 ((c.loop-note.invariant x).1 h))

pub returns : goal.returns
returns c = λ x. (
  λ h. (c.loop-note.invariant x).0 (inl h),
  λ h. elim ((c.loop-note.invariant x).1 h) [
    | inl a ↦ a
    | inr k ↦ absurd (subst (λ (l : List NoteParts). IsStart l x) c.in-None.ensures.steps.0 k).1
  ],
)
