use Rattle.std.proofs.Common.{◌≡◌, length}
use Rattle.mxf_catalogue.specs.Covers.{gaps_from}
use Rattle.mxf_catalogue.proofs.cover.gaps.CoverGapsIterator.next.Given as goal

abbrev pub invariant-loop-run : goal.invariant-loop-run
invariant-loop-run l = gaps_from l.self-inside.reached l.self-inside.left.now ≡ l.fn.self

abbrev pub decreases-loop-run : goal.decreases-loop-run
decreases-loop-run l = length l.self-inside.left.now
