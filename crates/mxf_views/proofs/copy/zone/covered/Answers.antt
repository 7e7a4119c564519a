use Rattle.mxf_views.proofs.Common.{◌∙◌}
use Rattle.mxf_views.proofs.SpanCounts.{sizes_more}
use Rattle.mxf_views.proofs.copy.zone.covered.Goals as goal

pub loop-note-preserved : goal.loop-note-preserved
loop-note-preserved c =
    let m = sizes_more c.loop-note.covered c.in-Some.note.now c.loop-note.note-iterator c.next.new.self
    c.in-Some.ensures.steps c.loop-note.invariant.1 in
    rw (c.end.ensures, c.offset.ensures.offset) (m.0 ∙ c.loop-note.invariant.0, m.1)
