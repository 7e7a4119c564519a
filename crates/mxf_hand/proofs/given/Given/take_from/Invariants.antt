-- The bytes so far were taken, and so many are left.
use Rattle.std.proofs.Common.{◌≡◌, ◌+◌, ◌≤◌, ℕ, List}
use Rattle.mxf_read.specs.Coming.{HasTaken, IsSamePacket}
use Rattle.mxf_hand.specs.Given.{AreBytesOf, AreTold, SourceParts, bytes_between}
use Rattle.mxf_hand.proofs.given.Given.take_from.Given as goal

abbrev pub invariant-reads : goal.invariant-reads
invariant-reads g l = (done : List ℕ) × (g.S.Sources.told l.sources ≡ g.S.Sources.told l.initial.sources)
    × (l.initial.at ≤ l.at) × (l.at + l.value.left ≡ l.initial.at + l.initial.value.left)
    × IsSamePacket l.initial.value l.value × HasTaken l.value done × ((given : List SourceParts) (byte : ℕ → ℕ)
    → AreTold (g.S.Sources.told l.initial.sources) l.self.extents given
    → AreBytesOf given byte l.initial.at (l.initial.at + l.initial.value.left)
    → done ≡ bytes_between byte l.initial.at l.at)

abbrev pub decreases-reads : goal.decreases-reads
decreases-reads g l = l.value.left
