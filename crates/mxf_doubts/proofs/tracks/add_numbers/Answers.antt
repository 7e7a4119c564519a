use Rattle.mxf_views.proofs.Common.{◌∙◌, sym}
use Rattle.mxf_doubts.specs.Tracks.{track_number}
use Rattle.mxf_doubts.proofs.TableLaws.{one_more}
use Rattle.mxf_doubts.proofs.tracks.add_numbers.Goals as goal

pub loop-item-preserved-in_ok-insert : goal.loop-item-preserved-in_ok-insert
loop-item-preserved-in_ok-insert c = λ number.
    one_more track_number c.loop-item.numbers c.insert.new.self c.in-Some-track_number.number c.in-Some.item c.next.new.self
    c.loop-item.item-iterator c.in_ok-insert.ensures.updates.0 (sym c.track_number.ensures ∙ c.in-Some-track_number.is)
    c.in-Some.ensures.steps number ∙ c.loop-item.invariant number
