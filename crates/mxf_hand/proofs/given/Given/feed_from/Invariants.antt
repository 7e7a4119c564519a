-- The bytes so far were fed, as far as sources are known, and so many are left.
use Rattle.std.proofs.Common.{◌≡◌, ◌+◌, ◌≤◌, ℕ, List}
use Rattle.mxf_read.specs.Feeding.{Fed, IsFed}
use Rattle.mxf_hand.specs.Given.{AreBytesOf, AreTold, SourceParts, bytes_between}
use Rattle.mxf_hand.proofs.given.Given.feed_from.Given as goal

abbrev pub invariant-reads : goal.invariant-reads
invariant-reads g l = (g.S.Sources.told l.sources ≡ g.S.Sources.told l.initial.sources)
    × (l.initial.at ≤ l.at) × (l.at + l.left ≡ l.initial.at + l.initial.left) × IsFed l.piece
    × ((given : List SourceParts) (byte : ℕ → ℕ) → AreTold (g.S.Sources.told l.initial.sources) l.self.extents given
    → AreBytesOf given byte l.initial.at (l.initial.at + l.initial.left)
    → Fed l.scan l.initial.at (bytes_between byte l.initial.at l.at) l.piece)

abbrev pub decreases-reads : goal.decreases-reads
decreases-reads g l = l.left
