-- What was noted of the overlap up to where one has come to.
use Rattle.std.proofs.Common.{◌≡◌, ◌-◌, ◌≤◌, List}
use Rattle.mxf_hand.specs.Differing.{IsCompared}
use Rattle.mxf_hand.specs.Given.{AreTold, SourceParts}
use Rattle.mxf_hand.specs.Places.{place}
use Rattle.mxf_hand.proofs.given.comparing.compare.Given as goal

abbrev pub invariant-parts : goal.invariant-parts
invariant-parts g l = record {
  from : l.overlap.start ≤ l.at;
  to : l.at ≤ l.overlap.end;
  told : g.S.Sources.told l.sources ≡ g.S.Sources.told l.initial.sources;
  noted : (given : List SourceParts) → AreTold (g.S.Sources.told l.initial.sources) l.extents given
      → IsCompared given l.places (place l.overlap.start l.at l.overlap.source) l.initial.differing l.differing;
}

abbrev pub decreases-parts : goal.decreases-parts
decreases-parts g l = l.overlap.end - l.at
