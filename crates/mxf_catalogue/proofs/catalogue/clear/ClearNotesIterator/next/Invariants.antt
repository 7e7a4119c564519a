use Rattle.std.proofs.Common.{◌≡◌, length}
use Rattle.mxf_catalogue.specs.Disputes.{whole_notes}
use Rattle.mxf_catalogue.proofs.catalogue.clear.ClearNotesIterator.next.Given as goal

abbrev pub invariant-loop-first : goal.invariant-loop-first
invariant-loop-first l = whole_notes l.self-inside.left.now ≡ l.fn.self

abbrev pub decreases-loop-first : goal.decreases-loop-first
decreases-loop-first l = length l.self-inside.left.now
