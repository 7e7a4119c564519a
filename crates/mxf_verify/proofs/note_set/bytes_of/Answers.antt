use Rattle.mxf_views.proofs.Common.{◌↔◌, ◌∙◌, ℕ, subst, take_all, LiesIn}
use Rattle.mxf_verify.specs.Verifying.{IsHeldBy}
use Rattle.mxf_verify.proofs.FinishingLaws.{bytes_more}
use Rattle.mxf_verify.proofs.note_set.bytes_of.Goals as goal

pub loop-member-preserved : goal.loop-member-preserved
loop-member-preserved c =
    bytes_more c.args.members.now c.loop-member.member-index c.member-item.result c.note-note.result.now c.loop-member.bytes
    c.add.new.self c.offset.result c.covered_end.result c.loop-member-test.true (c.note-note.ensures ∙ c.member-item.is)
    c.offset.ensures.offset c.covered_end.ensures.covered c.in_ok-add.ensures.added c.loop-member.invariant

pub returns : goal.returns
returns c = subst (λ l. (at : ℕ) → LiesIn c.loop-member.bytes at ↔ IsHeldBy l at)
    (take_all c.loop-member.member-index c.args.members.now c.loop-member-test.false) c.loop-member.invariant
