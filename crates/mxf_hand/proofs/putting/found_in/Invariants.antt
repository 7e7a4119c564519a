-- What is found so far, with what the sections that are to come give.
use Rattle.mxf_views.proofs.Common.{◌≡◌, ◌++◌, List, drop, NoteParts}
use Rattle.mxf_hand.specs.Barren.{AreBarren}
use Rattle.mxf_hand.specs.Finding.{Finds}
use Rattle.mxf_hand.specs.Hand.{AreToldIn, HandBytes}
use Rattle.mxf_hand.specs.Rounds.{made_in, packets_in, read_heads_in}
use Rattle.mxf_hand.specs.declared.found.CutHead.{CutHead}
use Rattle.mxf_hand.proofs.putting.found_in.Given as goal

abbrev pub invariant-loop-section : goal.invariant-loop-section
invariant-loop-section g l = (g.S.Sources.told l.sources ≡ g.S.Sources.told l.initial.sources) × ((h : HandBytes)
    → AreToldIn (g.S.Sources.told l.initial.sources) l.hand.given.extents l.hand.runs l.hand.scan h
    → AreBarren h l.initial.barren → AreBarren h l.barren × ((packets : List NoteParts) × (made : List NoteParts)
    × (heads : List CutHead) × Finds l.found packets made heads
    × (packets ++ packets_in h l.views (drop l.section-index l.section-items)
    ≡ packets_in h l.views l.section-items)
    × (made ++ made_in h l.views (drop l.section-index l.section-items) ≡ made_in h l.views l.section-items)
    × (heads ++ read_heads_in h l.views (drop l.section-index l.section-items)
    ≡ read_heads_in h l.views l.section-items)))
