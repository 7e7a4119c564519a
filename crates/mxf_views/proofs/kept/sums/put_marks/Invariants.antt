-- The marks so far are marks, what has passed is counted, and the counts fit.
use Rattle.mxf_views.proofs.Common.{◌+◌, ◌<◌, ◌^◌, length, AreApart}
use Rattle.mxf_views.proofs.MarkLaws.{AreCounted}
use Rattle.mxf_views.proofs.kept.sums.put_marks.Given as goal

abbrev pub invariant-loop-note : goal.invariant-loop-note
invariant-loop-note l = AreCounted l.fn.notes l.marks.items l.covered l.prefaces l.note-iterator
    × AreApart l.covered l.note-iterator × (l.prefaces + length l.note-iterator < 2 ^ 64)
    × (l.passed + length l.note-iterator < 2 ^ 64)
