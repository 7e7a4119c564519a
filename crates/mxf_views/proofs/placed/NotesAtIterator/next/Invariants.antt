use Rattle.mxf_views.proofs.Common.{◌≡◌, length}
use Rattle.mxf_views.specs.Kept.{notes_at}
use Rattle.mxf_views.proofs.placed.NotesAtIterator.next.Given as goal

abbrev pub invariant-loop-first : goal.invariant-loop-first
invariant-loop-first g l = notes_at g.T.Keyed.key l.self-inside.catalogue.now l.self-inside.kept.now ≡ l.fn.self

abbrev pub decreases-loop-first : goal.decreases-loop-first
decreases-loop-first g l = length l.self-inside.kept.now
