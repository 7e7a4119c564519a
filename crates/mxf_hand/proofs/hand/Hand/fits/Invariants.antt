-- The bytes at hand so far are what the head says.
use Rattle.mxf_views.proofs.Common.{◌≡◌, ◌≤◌, ◌<◌, ◌-◌, ◌⊎◌, ℕ, get_or, In, LiesIn}
use Rattle.mxf_catalogue.specs.declared.run.Run.{Run}
use Rattle.mxf_hand.specs.Hand.{AreToldIn, HandBytes}
use Rattle.mxf_hand.proofs.hand.Hand.fits.Given as goal

abbrev pub invariant-loop-run : goal.invariant-loop-run
invariant-loop-run g l = (g.S.Sources.told l.sources ≡ g.S.Sources.told l.initial.sources)
    × ((r : Run) → In r l.run-iterator → In r l.self.runs × (r.start < l.end)) × ((h : HandBytes)
    → AreToldIn (g.S.Sources.told l.initial.sources) l.self.given.extents l.self.runs l.self.scan h
    → (x : ℕ) → l.start ≤ x → x < l.end → LiesIn l.self.runs x
    → LiesIn l.run-iterator x ⊎ (h.byte x ≡ get_or l.spelled.items (x - l.start) 0))
