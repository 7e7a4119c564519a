-- What a cover lacks.
use Rattle.mxf_views.proofs.Common.{◌≡◌, ◌↔◌, ◌⊎◌, ◌<◌, ◌≤◌, ◌+◌, ◌-◌, ℕ, List, [], ◌∷◌, ◌++◌, sym, subst, inl}
use Rattle.mxf_views.proofs.Common.{inr, arith, nat_le, nat_lt, ◌&&◌, AllByRecursion, and_from, and_parts, cases_lt}
use Rattle.mxf_views.proofs.Common.{le-leb, leb-true, greatest_end, In, all-In, all_append, all_from_In, list_any-In}
use Rattle.mxf_views.proofs.Common.{some_above, IsCover, gaps_of_runs, IsWithin, LiesIn, SameOffsets, run}
use Rattle.mxf_views.proofs.Common.{gaps_by_definition, has_byte}
use Rattle.mxf_catalogue.specs.declared.run.Run.{Run}
use Rattle.std.proofs.lemmas.Bool.{lt-ltb, ltb-true}
use Rattle.mxf_units.proofs.OffsetLaws.{some_end}
use Rattle.mxf_verify.proofs.KnownLaws.{or_not}

-- ---- what a cover lacks

-- It is known whether an offset lies in ranges.
pub lies_or_not : (runs : List Run) (at : ℕ) → LiesIn runs at ⊎ (LiesIn runs at → ⊥)
lies_or_not runs at =
    let any = list_any-In (λ (r : Run). nat_le r.start at && nat_lt at r.end) runs in
    or_not _ (
      λ t.
          let s = any.0 t in
          let p = and_parts _ _ s.2 in
          let before = ltb-true _ _ p.1 in
          (s.0, s.1, record { from = leb-true _ _ p.0; before = omega (arith, before) }),
      λ (r, i, w). let before = w.before in
          any.1 (r, i, and_from _ _ (le-leb _ _ w.from) (lt-ltb at r.end (omega (arith, before)))),
    )

-- What lies in a cover lies below the greatest end.
pub below_greatest : (runs : List Run) → IsCover runs → (at : ℕ) → LiesIn runs at → at < greatest_end
below_greatest runs is at h =
    let end : h.0.end ≤ greatest_end = all-In (λ (r : Run). r.end ≤ greatest_end) runs h.0 is.within h.1 in
    let before : at + 1 ≤ h.0.end = h.2.before in omega (arith, end, before)

module _ (runs : List Run) (is : IsCover runs) where
  -- The offset lies below the end of some run, where it lies below the greatest.
  below_some : (end at : ℕ)
      → ((bound : ℕ) → end ≤ bound ↔ ((offset : ℕ) → LiesIn runs offset → offset < bound)) → at < end
      → (r : Run) × In r runs × (at < r.end)
  below_some end at ends low = some_above (λ (r : Run). r.end) runs at (λ most.
      let late : end ≤ at = (ends at).1 (λ offset h.
      let before : offset + 1 ≤ h.0.end = h.2.before in
      let last = most h.0 h.1 in omega (arith, before, last)) in omega (arith, late, low))

  gap_ends : (r : Run) → In r (gaps_of_runs runs) → r.end ≤ greatest_end
  gap_ends r h =
      let gaps = gaps_by_definition runs is in
      let some : r.start < r.end = has_byte 0 (gaps_of_runs runs) r gaps.maximal h in
      let between = (gaps.offsets (r.end - 1)).0
      (r, h, record { from = omega (arith, some); before = omega (arith, some) }) in
      let over = between.below in
      let high : r.end - 1 < over.0.end = over.2 in
      let end : over.0.end ≤ greatest_end = all-In (λ (s : Run). s.end ≤ greatest_end) runs over.0 is.within over.1 in
      omega (arith, high, end)

  module _ (end : ℕ) (whole : List Run)
      (ends : (bound : ℕ) → end ≤ bound ↔ ((offset : ℕ) → LiesIn runs offset → offset < bound))
      (parts : whole ≡ gaps_of_runs runs ++ run end greatest_end ∷ []) where
    -- The gaps of a cover, and the range behind it: what it lacks below the greatest end.
    pub outside-offsets : (at : ℕ) → LiesIn whole at ↔ ((at < greatest_end) × (LiesIn runs at → ⊥))
    outside-offsets at =
        let gaps = gaps_by_definition runs is in
        let two = subst (λ l. LiesIn l at ↔ LiesIn (gaps_of_runs runs) at ⊎ IsWithin (run end greatest_end) at)
        (sym parts)
        (some_end (λ q. IsWithin q at) (gaps_of_runs runs) (run end greatest_end)) in (
          λ h. elim (two.0 h) [
            | inl k ↦ (
                let between = (gaps.offsets at).0 k in
                let over = between.below in
                let high : at < over.0.end = over.2 in
                let last : over.0.end ≤ greatest_end = all-In (λ (s : Run). s.end ≤ greatest_end) runs over.0 is.within
                over.1 in
                (omega (arith, high, last), between.in_none))
            | inr w ↦ (
                let from : end ≤ at = w.from in
                let before : at + 1 ≤ greatest_end = w.before in (
                  omega (arith, before),
                  λ k. let low : at < end = (ends end).0 (omega arith) at k in absurd (omega (arith, low, from)),
                ))
          ],
          λ h. two.1 (elim (cases_lt at end) [
            | inl low ↦ inl ((gaps.offsets at).1 (record { below = below_some end at ends low; in_none = h.1 }))
            | inr high ↦ (let below : at < greatest_end = h.0 in
                inr (record { from = high; before = omega (arith, below) }))
          ]),
        )

    pub outside-within : AllByRecursion (λ r. r.end ≤ greatest_end) whole
    outside-within = grind (arith, all_append, all_from_In, gap_ends)

-- What is outside of all that is outside of one set or in another: what lies in the one and not in the other.
pub rest-offsets : (all known others cover whole result : List Run)
    → ((at : ℕ) → LiesIn others at ↔ ((at < greatest_end) × (LiesIn all at → ⊥)) ⊎ LiesIn known at)
    → ((at : ℕ) → LiesIn all at → at < greatest_end) → SameOffsets cover others
    → ((at : ℕ) → LiesIn whole at ↔ ((at < greatest_end) × (LiesIn cover at → ⊥))) → SameOffsets result whole
    → (at : ℕ) → LiesIn result at ↔ (LiesIn all at × (LiesIn known at → ⊥))
rest-offsets all known others cover whole result other low covered rest same at = (
  λ h.
      let w = (rest at).0 ((same at).0 h) in
      let none = λ (k : ((at < greatest_end) × (LiesIn all at → ⊥)) ⊎ LiesIn known at).
      w.1 ((covered at).1 ((other at).1 k)) in
      (elim (lies_or_not all at) [ inl k ↦ k | inr n ↦ absurd (none (inl (w.0, n))) ], λ k. none (inr k)),
  λ h. (same at).1 ((rest at).1 (
    low at h.0,
    λ k. elim ((other at).0 ((covered at).0 k)) [ inl s ↦ s.1 h.0 | inr s ↦ h.1 s ],
  )),
)
