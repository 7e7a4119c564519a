use Rattle.mxf_views.proofs.Common.{◌∙◌, sym}
use Rattle.mxf_doubts.proofs.TableLaws.{one_more_instance}
use Rattle.mxf_doubts.proofs.references.instances.Goals as goal

pub loop-note-preserved-in_ok-insert : goal.loop-note-preserved-in_ok-insert
loop-note-preserved-in_ok-insert c = λ uid.
    one_more_instance c.loop-note.uids c.insert.new.self c.in-Some-instance_of.uid c.in-Some.note.now c.next.new.self
    c.loop-note.note-iterator c.in_ok-insert.ensures.updates.0 (sym c.is_set.ensures ∙ c.if-is_set.true)
    (sym c.instance_of.ensures ∙ c.in-Some-instance_of.is) c.in-Some.ensures.steps uid ∙ c.loop-note.invariant uid
