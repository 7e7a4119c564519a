-- The heads that fit so far, with those that are to come.
use Rattle.std.proofs.Common.{◌≡◌, ◌++◌, ◌&&◌, ◌==◌, ◌∷◌, [], drop, filter, flat_map, map}
use Rattle.mxf_hand.specs.Hand.{AreToldIn, HandBytes}
use Rattle.mxf_hand.specs.Heads.{fits}
use Rattle.mxf_hand.proofs.section.fitting.Given as goal

abbrev pub invariant-loop-head : goal.invariant-loop-head
invariant-loop-head g l = (g.S.Sources.told l.sources ≡ g.S.Sources.told l.initial.sources) × ((h : HandBytes)
    → AreToldIn (g.S.Sources.told l.initial.sources) l.hand.given.extents l.hand.runs l.hand.scan h
    → map (λ x. x.now) l.fitting.items ++ flat_map (λ x. filter (λ n. (n.offset == l.start) && fits h n) (x.now ∷ []))
    (drop l.head-index l.heads) ≡ flat_map (λ x. filter (λ n. (n.offset == l.start) && fits h n) (x.now ∷ [])) l.heads)
