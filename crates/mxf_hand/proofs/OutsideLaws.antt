-- The offsets of runs that aren't in others.
use Rattle.mxf_views.proofs.Common.{◌≡◌, ◌↔◌, ◌⊎◌, ◌<◌, ◌≤◌, ◌+◌, ℕ, List, [], ◌∷◌, Some, true, false, filter}
use Rattle.mxf_views.proofs.Common.{if◌then◌else◌, max, min, nat_lt, refl, inl, inr, arith, lt-ltb, ltb-true, and_from}
use Rattle.mxf_views.proofs.Common.{cases_lt, AllByRecursion, greatest_end, In-filter, IsCover, IsRun, LiesIn-with_run}
use Rattle.mxf_views.proofs.Common.{is_between, with_run, AreMaximal, LiesIn, run, IsCover-with_run, AreMaximal-lower}
use Rattle.mxf_catalogue.specs.declared.run.Run.{Run}
use Rattle.std.proofs.Common.{ltb-false}
use Rattle.mxf_catalogue.specs.Covers.{LiesIn-first}
use Rattle.mxf_catalogue.proofs.RunLaws.{at_or_above}
use Rattle.mxf_hand.specs.Outside.{with_all_outside, with_outside, with_some}

-- ---- offsets from a start up to an end

pub LiesIn-with_some : (start end : ℕ) (runs : List Run) (x : ℕ)
    → LiesIn (with_some start end runs) x ↔ LiesIn runs x ⊎ ((start ≤ x) × (x < end))
LiesIn-with_some start end runs x = elim (nat_lt start end) as (λ b. nat_lt start end ≡ b
    → LiesIn (if b then with_run (run start end) runs else runs) x ↔ LiesIn runs x ⊎ ((start ≤ x) × (x < end))) [
      | true ↦ λ e.
          let one = LiesIn-with_run (run start end) runs x in (
            λ h. elim (one.0 h) [
              | inl w ↦ (let from : start ≤ x = w.from in let before : x + 1 ≤ end = w.before in
                  inr (from, omega (arith, before)))
              | inr k ↦ inl k
            ],
            λ h. one.1 (elim h [
              | inl k ↦ inr k
              | inr k ↦ (let from = k.0 in let before = k.1 in
                  inl (record { from = from; before = omega (arith, before) }))
            ]),
          )
      | false ↦ λ e.
          let empty = ltb-false start end e in (
            λ h. inl h,
            λ h. elim h [
              | inl k ↦ k
              | inr k ↦ (let from = k.0 in let before = k.1 in absurd (omega (arith, empty, from, before)))
            ],
          )
    ] refl

pub IsCover-with_some : (start end : ℕ) (runs : List Run) → end ≤ greatest_end → IsCover runs
    → IsCover (with_some start end runs)
IsCover-with_some start end runs most c = elim (nat_lt start end) as (λ b. nat_lt start end ≡ b
    → IsCover (if b then with_run (run start end) runs else runs)) [
      | true ↦ λ e.
          let order = ltb-true start end e in
          IsCover-with_run (run start end) runs (record { order = order; within = most }) c
      | false ↦ λ e. c
    ] refl

-- ---- offsets outside holes

pub LiesIn-with_outside : (low : ℕ) (runs : List Run) (reached end : ℕ) (holes : List Run) (x : ℕ)
    → AreMaximal low holes → LiesIn (with_outside runs reached end holes) x
    ↔ LiesIn runs x ⊎ ((reached ≤ x) × (x < end) × (LiesIn holes x → ⊥))
LiesIn-with_outside low runs reached end [] x m =
    let some = LiesIn-with_some reached end runs x in (
      λ h. elim (some.0 h) [ inl k ↦ inl k | inr k ↦ inr (k.0, k.1, λ n. n.1) ],
      λ h. some.1 (elim h [ inl k ↦ inl k | inr k ↦ inr (k.0, k.1) ]),
    )
LiesIn-with_outside low runs reached end (g ∷ holes) x m =
    let ih = LiesIn-with_outside (g.end + 1) (with_some reached (min g.start end) runs) (max reached g.end) end holes x
    m.2 in
    let some = LiesIn-with_some reached (min g.start end) runs x in
    let first = LiesIn-first g holes x in
    let order : g.start < g.end = m.1 in (
      λ h. elim (ih.0 h) [
        | inl k ↦ elim (some.0 k) [
          | inl n ↦ inl n
          | inr n ↦ (
              let from = n.0 in
              let before = n.1 in
              inr (
                from,
                omega (arith, before),
                λ q. elim (first.0 q) [
                  | inl w ↦ (let start : g.start ≤ x = w.from in omega (arith, start, before))
                  | inr w ↦ (let above = at_or_above (g.end + 1) holes x m.2 w in omega (arith, above, before, order))
                ],
              ))
        ]
        | inr k ↦ (
            let from = k.0 in
            let before = k.1 in
            inr (
              omega (arith, from),
              before,
              λ q. elim (first.0 q) [
                | inl w ↦ (let last : x + 1 ≤ g.end = w.before in omega (arith, last, from))
                | inr w ↦ k.2 w
              ],
            ))
      ],
      λ h. ih.1 (elim h [
        | inl k ↦ inl (some.1 (inl k))
        | inr k ↦ (
            let from = k.0 in
            let before = k.1 in
            elim (cases_lt x g.start) [
              | inl below ↦ inl (some.1 (inr (from, omega (arith, below, before))))
              | inr above ↦ elim (cases_lt x g.end) [
                | inl within ↦ absurd (k.2 (first.1 (inl (record { from = above; before = omega (arith, within) }))))
                | inr behind ↦ inr (omega (arith, from, behind), before, λ q. k.2 (first.1 (inr q)))
              ]
            ])
      ]),
    )

IsCover-with_outside : (runs : List Run) (reached end : ℕ) (holes : List Run) → end ≤ greatest_end → IsCover runs
    → IsCover (with_outside runs reached end holes)
IsCover-with_outside runs reached end [] most c = IsCover-with_some reached end runs most c
IsCover-with_outside runs reached end (g ∷ holes) most c =
    IsCover-with_outside (with_some reached (min g.start end) runs) (max reached g.end) end holes most
    (IsCover-with_some reached (min g.start end) runs (omega (arith, most)) c)

-- ---- the runs that a walk looks at

AreMaximal-filter : (low from to : ℕ) (holes : List Run) → AreMaximal low holes
    → AreMaximal low (filter (is_between from (Some to)) holes)
AreMaximal-filter low from to [] m = tt
AreMaximal-filter low from to (g ∷ holes) m =
    grind (arith, AreMaximal-lower, AreMaximal-filter (g.end + 1) from to holes m.2)

LiesIn-filter : (from to : ℕ) (holes : List Run) (x : ℕ) → from ≤ x → x < to
    → LiesIn holes x ↔ LiesIn (filter (is_between from (Some to)) holes) x
LiesIn-filter from to holes x low high = grind (arith, In-filter, and_from, lt-ltb)

-- ---- all runs

pub LiesIn-with_all_outside : (runs others holes : List Run) (x : ℕ) → AreMaximal 0 holes
    → LiesIn (with_all_outside runs others holes) x ↔ LiesIn runs x ⊎ (LiesIn others x × (LiesIn holes x → ⊥))
LiesIn-with_all_outside runs [] holes x m = (inl, λ h. elim h [ inl k ↦ k | inr k ↦ absurd k.0.1 ])
LiesIn-with_all_outside runs (r ∷ others) holes x m =
    let between = filter (is_between r.start (Some r.end)) holes in
    let ih = LiesIn-with_all_outside (with_outside runs r.start r.end between) others holes x m in
    let one = LiesIn-with_outside 0 runs r.start r.end between x (AreMaximal-filter 0 r.start r.end holes m) in
    let first = LiesIn-first r others x in (
      λ h. elim (ih.0 h) [
        | inl k ↦ elim (one.0 k) [
          | inl n ↦ inl n
          | inr n ↦ (
              let from = n.0 in
              let before = n.1 in
              let same = LiesIn-filter r.start r.end holes x from before in
              inr (first.1 (inl (record { from = from; before = omega (arith, before) })), λ q. n.2 (same.0 q)))
        ]
        | inr k ↦ inr (first.1 (inr k.0), k.1)
      ],
      λ h. ih.1 (elim h [
        | inl k ↦ inl (one.1 (inl k))
        | inr k ↦ elim (first.0 k.0) [
          | inl w ↦ (
              let from : r.start ≤ x = w.from in
              let before : x + 1 ≤ r.end = w.before in
              let same = LiesIn-filter r.start r.end holes x from (omega (arith, before)) in
              inl (one.1 (inr (from, omega (arith, before), λ q. k.1 (same.1 q)))))
          | inr n ↦ inr (n, k.1)
        ]
      ]),
    )

pub IsCover-with_all_outside : (runs others holes : List Run) → IsCover runs → AllByRecursion IsRun others
    → IsCover (with_all_outside runs others holes)
IsCover-with_all_outside runs [] holes c all = c
IsCover-with_all_outside runs (r ∷ others) holes c all =
    let between = filter (is_between r.start (Some r.end)) holes in
    IsCover-with_all_outside (with_outside runs r.start r.end between) others holes
    (IsCover-with_outside runs r.start r.end between all.0.within c) all.1

pub LiesIn-outside : (runs holes : List Run) (x : ℕ) → AreMaximal 0 holes
    → LiesIn (with_all_outside [] runs holes) x ↔ (LiesIn runs x × ¬ LiesIn holes x)
LiesIn-outside runs holes x m =
    let all = LiesIn-with_all_outside [] runs holes x m in
    (λ h. elim (all.0 h) [ inl none ↦ absurd none.1 | inr k ↦ (k.0, k.1) ], λ h. all.1 (inr (h.0, h.1)))
