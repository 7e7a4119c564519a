use Rattle.mxf_views.proofs.Common.{◌≡◌, ◌∙◌, ◌≤◌, ◌<◌, ◌+◌, ◌-◌, ℕ, List, ap, arith, inl, inr, refl, subst, sym}
use Rattle.mxf_views.proofs.Common.{get_or, length, ◌≢◌, In, LiesIn}
use Rattle.mxf_catalogue.specs.declared.run.Run.{Run}
use Rattle.mxf_hand.specs.Given.{AreTold, bytes_between}
use Rattle.mxf_hand.specs.Hand.{HandParts}
use Rattle.mxf_places.specs.Heads.{key_and_length}
use Rattle.mxf_hand.proofs.FitLaws.{between_lies, between_part, stands, unfit}
use Rattle.mxf_hand.proofs.HandLaws.{at_fits, told_after}
use Rattle.mxf_hand.proofs.hand.Hand.fits.Goals as goal

pub loop-run-init : goal.loop-run-init
loop-run-init g c =
    let runs = c.self.inside.runs in
    let start = c.offset-start.result in
    let end = c.offset-start.result + 16 + c.from.result in
    let items = c.into_iter-run-iterator.ensures.into_iter_gives ∙ c.runs_between-run-items.ensures.runs in (
      refl,
      λ r i.
          let part = between_part runs c.into_iter-run-iterator.result start end items r i in
          (subst (λ (a : HandParts). In r a.runs) c.self.view_is part.0, part.1),
      λ h t x low high lies. inl (between_lies runs c.into_iter-run-iterator.result start end items x low high
          (subst (λ (a : HandParts). LiesIn a.runs x) (sym c.self.view_is) lies)),
    )

pub bytes-requires : goal.bytes-requires
bytes-requires g c = λ x low high.
    let run = c.in-Some.run' in
    let there = c.loop-run.invariant.1 run (subst (λ (l : List Run). In run l) (sym c.in-Some.ensures.steps) (inl refl))
    in
    let from = c.max-from.ensures in
    let to = c.min.ensures in
    let a : run.start ≤ x = omega (arith, from, low) in
    let b : x < run.end = omega (arith, to, high) in
    c.self.invariant.1 x (
      run,
      subst (λ (a : HandParts). In run a.runs) (sym c.self.view_is) there.0,
      record { from = a; before = omega (arith, b) },
    )

pub returns-then-not-stand_at-clause-fits : goal.returns-then-not-stand_at-clause-fits
returns-then-not-stand_at-clause-fits g c = λ h t.
    let n = c.args.head.now in
    let run = c.in-Some.run' in
    let from = c.max-from.result in
    let to = c.min.result in
    let bytes = c.in_ok-bytes.bytes.items in
    let there = c.loop-run.invariant.1 run (subst (λ (l : List Run). In run l) (sym c.in-Some.ensures.steps) (inl refl))
    in
    let first = c.max-from.ensures in
    let last = c.min.ensures in
    let start = c.offset-start.ensures.offset in
    let width = c.from.ensures ∙ c.width.ensures in
    let inside = there.1 in
    let lies : (x : ℕ) → from ≤ x → x < to → LiesIn c.args.self.now.runs x = λ x low high.
    (run, there.0, record { from = omega (arith, first, low); before = omega (arith, last, high) }) in
    let told = told_after c.loop-run.invariant.0 t in
    let are : AreTold (g.S.Sources.told c.loop-run.sources) c.self.inside.given.extents told.sources =
    subst (λ (a : HandParts). AreTold (g.S.Sources.told c.loop-run.sources) a.given.extents told.sources)
    (sym c.self.view_is) told.are_told in
    let read : bytes ≡ bytes_between h.byte from to = c.in_ok-bytes.ensures.bytes told.sources h.byte are
    (λ x b low high is. told.bytes x b (lies x low high) is) in
    sym (unfit h n bytes c.in_ok-spelled.spelled.items c.offset-start.result from to c.in_ok-spelled.ensures
    c.offset-start.ensures.note start (omega (arith, first)) (omega (arith, first, inside, width))
    (omega (arith, last, width)) read (λ x low high. subst (λ (l : List Run). LiesIn l x) (sym t.lie) (lies x low high))
    (subst (λ (l : List ℕ). (from - c.offset-start.result) + length bytes ≤ length l
    → (i : ℕ) × (i < length bytes) × (get_or l ((from - c.offset-start.result) + i) 0 ≢ get_or bytes i 0))
    c.deref-in-loop-run.ensures.value
    (subst (λ (l : List ℕ). (from - c.offset-start.result) + length l ≤ length c.deref-in-loop-run.result.now
    → (i : ℕ) × (i < length l)
    × (get_or c.deref-in-loop-run.result.now ((from - c.offset-start.result) + i) 0 ≢ get_or l i 0))
    c.deref.ensures.value (c.stand_at.ensures.differ c.if-not-stand_at.true))))

pub loop-run-preserved : goal.loop-run-preserved
loop-run-preserved g c =
    let run = c.in-Some.run' in
    let from = c.max-from.result in
    let to = c.min.result in
    let bytes = c.in_ok-bytes.bytes.items in
    let others = c.in_ok-spelled.spelled.items in
    let there = c.loop-run.invariant.1 run (subst (λ (l : List Run). In run l) (sym c.in-Some.ensures.steps) (inl refl))
    in
    let first = c.max-from.ensures in
    let last = c.min.ensures in
    let lies : (x : ℕ) → from ≤ x → x < to → LiesIn c.args.self.now.runs x = λ x low high.
    (run, there.0, record { from = omega (arith, first, low); before = omega (arith, last, high) }) in (
      c.in_ok-bytes.ensures.told ∙ c.loop-run.invariant.0,
      λ r i. c.loop-run.invariant.1 r (subst (λ (l : List Run). In r l) (sym c.in-Some.ensures.steps) (inr i)),
      λ h t x low high at.
          let told = told_after c.loop-run.invariant.0 t in
          let are : AreTold (g.S.Sources.told c.loop-run.sources) c.self.inside.given.extents told.sources =
          subst (λ (a : HandParts). AreTold (g.S.Sources.told c.loop-run.sources) a.given.extents told.sources)
          (sym c.self.view_is) told.are_told in
          let read : bytes ≡ bytes_between h.byte from to = c.in_ok-bytes.ensures.bytes told.sources h.byte are
          (λ y b low high is. told.bytes y b (lies y low high) is) in
          let agree : (i : ℕ) → i < length bytes
          → get_or others ((from - c.offset-start.result) + i) 0 ≡ get_or bytes i 0 =
          subst (λ (l : List ℕ). (i : ℕ) → i < length bytes
          → get_or l ((from - c.offset-start.result) + i) 0 ≡ get_or bytes i 0)
          c.deref-in-loop-run.ensures.value (subst (λ (l : List ℕ). (i : ℕ) → i < length l
          → get_or c.deref-in-loop-run.result.now ((from - c.offset-start.result) + i) 0 ≡ get_or l i 0)
          c.deref.ensures.value (c.stand_at.ensures.agree c.if-not-stand_at.false)) in
          elim (c.loop-run.invariant.2 h t x low high at) [
            | inl k ↦ elim (subst (λ (l : List Run). In k.0 l) c.in-Some.ensures.steps k.1) [
              | inl e ↦
                  let a : k.0.start ≤ x = k.2.from in
                  let b : x + 1 ≤ k.0.end = k.2.before in
                  let s : k.0.start ≡ run.start = ap (λ (r : Run). r.start) e in
                  let d : k.0.end ≡ run.end = ap (λ (r : Run). r.end) e in
                  inr (stands h.byte bytes others c.offset-start.result from to x read (omega (arith, first)) agree
                  (omega (arith, first, a, s, low)) (omega (arith, last, b, d, high)))
              | inr i ↦ inl (k.0, i, k.2)
            ]
            | inr s ↦ inr s
          ],
    )

pub returns-clause-fits : goal.returns-clause-fits
returns-clause-fits g c = λ h t.
    let n = c.args.head.now in
    let start = c.offset-start.ensures.offset in
    let width = c.from.ensures ∙ c.width.ensures in
    sym (at_fits h n (λ x low high lies.
    elim (c.loop-run.invariant.2 h t x (omega (arith, start, low)) (omega (arith, start, width, high))
    (subst (λ (l : List Run). LiesIn l x) t.lie lies)) [
      | inl k ↦ absurd (subst (λ (l : List Run). LiesIn l x) c.in-None.ensures.steps.0 k).1
      | inr s ↦ s ∙ ap (λ (l : List ℕ). get_or l (x - c.offset-start.result) 0) c.in_ok-spelled.ensures
          ∙ ap (λ (k : ℕ). get_or (key_and_length n) (x - k) 0) start
    ]))
