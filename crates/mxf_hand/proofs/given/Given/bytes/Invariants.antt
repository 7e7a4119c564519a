-- The bytes so far are those up to here.
use Rattle.std.proofs.Common.{◌≡◌, ◌-◌, ◌≤◌, ℕ, List}
use Rattle.mxf_hand.specs.Given.{AreBytesOf, AreTold, SourceParts, bytes_between}
use Rattle.mxf_hand.proofs.given.Given.bytes.Given as goal

abbrev pub invariant-reads : goal.invariant-reads
invariant-reads g l = (g.S.Sources.told l.sources ≡ g.S.Sources.told l.initial.sources)
    × (l.from ≤ l.at) × (l.at - l.from ≤ l.to - l.from) × ((given : List SourceParts) (byte : ℕ → ℕ)
    → AreTold (g.S.Sources.told l.initial.sources) l.self.extents given → AreBytesOf given byte l.from l.to
    → l.bytes.items ≡ bytes_between byte l.from l.at)

abbrev pub decreases-reads : goal.decreases-reads
decreases-reads g l = l.to - l.at
