use denote.Bor.{Bor}
use Rattle.mxf_views.proofs.Common.{◌≡◌, ◌∙◌, ◌++◌, ◌&&◌, ◌==◌, ◌∷◌, [], Bool, List, ap, arith, filter, flat_map, map}
use Rattle.mxf_views.proofs.Common.{refl, NoteParts}
use Rattle.std.proofs.lemmas.List.{drop_all}
use Rattle.mxf_places.proofs.LoopLaws.{appended-step, nothing_left}
use Rattle.mxf_hand.specs.Heads.{fits}
use Rattle.mxf_hand.proofs.HandLaws.{told_after}
use Rattle.mxf_hand.proofs.section.fitting.Goals as goal

kept_each : (p : NoteParts → Bool) (heads : List (Bor NoteParts))
    → flat_map (λ x. filter p (x.now ∷ [])) heads ≡ filter p (map (λ x. x.now) heads)
kept_each p [] = refl
kept_each p (x ∷ heads) = grind (arith, kept_each p heads)

pub loop-head-preserved : goal.loop-head-preserved
loop-head-preserved g c = (
  c.in_ok-push_fitting.ensures.told ∙ c.loop-head.invariant.0,
  λ h t.
      let kept = λ (x : Bor NoteParts). filter (λ n. (n.offset == c.args.start) && fits h n) (x.now ∷ []) in
      let old = map (λ (x : Bor NoteParts). x.now) c.loop-head.fitting.items in
      appended-step kept c.args.heads.now c.loop-head.head-index c.head-item.result old _ _ c.loop-head-test.true
      (c.in_ok-push_fitting.ensures.pushed h (told_after c.loop-head.invariant.0 t)
      ∙ ap (λ (x : Bor NoteParts). old ++ kept x) c.head-item.is) (c.loop-head.invariant.1 h t),
)

pub returns-clause-fitting : goal.returns-clause-fitting
returns-clause-fitting g c = λ h t.
    let p = λ (n : NoteParts). (n.offset == c.args.start) && fits h n in
    nothing_left (flat_map (λ (x : Bor NoteParts). filter p (x.now ∷ []))) _ _ _ refl
    (drop_all c.loop-head.head-index c.args.heads.now c.loop-head-test.false) (c.loop-head.invariant.1 h t)
    ∙ kept_each p c.args.heads.now
