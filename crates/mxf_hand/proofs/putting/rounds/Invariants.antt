-- The rounds that are to come lead to what is put together.
use Rattle.std.proofs.Common.{◌≡◌, ◌-◌}
use Rattle.mxf_hand.specs.Barren.{AreBarren}
use Rattle.mxf_hand.specs.Hand.{AreToldIn, HandBytes}
use Rattle.mxf_hand.specs.Rounds.{put_together, rounds}
use Rattle.mxf_hand.proofs.putting.rounds.Given as goal

abbrev pub invariant-loop-number : goal.invariant-loop-number
invariant-loop-number g l = (g.S.Sources.told l.sources ≡ g.S.Sources.told l.initial.sources) × ((h : HandBytes)
    → AreToldIn (g.S.Sources.told l.initial.sources) l.hand.given.extents l.hand.runs l.hand.scan h
    → AreBarren h l.barren × (rounds (64 - l.number) h l.views ≡ put_together h l.initial.views))
