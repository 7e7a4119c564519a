-- What was noted of the overlaps so far.
use Rattle.std.proofs.Common.{◌≡◌, List, length, take}
use Rattle.mxf_hand.specs.Differing.{AreCompared}
use Rattle.mxf_hand.specs.Given.{AreTold, SourceParts}
use Rattle.mxf_hand.proofs.given.comparing.compare_all.Given as goal

abbrev pub invariant-loop-overlap : goal.invariant-loop-overlap
invariant-loop-overlap g l = record {
  one : length l.one ≡ 65536;
  other : length l.other ≡ 65536;
  told : g.S.Sources.told l.sources ≡ g.S.Sources.told l.initial.sources;
  noted : (given : List SourceParts) → AreTold (g.S.Sources.told l.initial.sources) l.extents given
      → AreCompared given l.places (take l.overlap-index l.overlaps) l.differing;
}
