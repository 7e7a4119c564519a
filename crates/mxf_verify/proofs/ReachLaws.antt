-- Elements that reach up to a bound, found by the greatest number up to each.
use Rattle.mxf_views.proofs.Common.{◌≡◌, ◌↔◌, ◌⊎◌, ◌<◌, ◌≤◌, ◌+◌, ℕ, zero, suc, List, [], ◌∷◌, subst, inl, inr, arith}
use Rattle.mxf_views.proofs.Common.{get_or, ap, length, max, refl, AllWithin, cases_lt, Contains-from_In, In-at, run}
use Rattle.mxf_catalogue.specs.declared.run.Run.{Run}
use Rattle.std.specs.List.{scan}
use Rattle.mxf_units.specs.Intervals.{greatest_ends}
use Rattle.mxf_units.proofs.IntervalLaws.{ends-rise, length-ends, own_end}
use Rattle.mxf_verify.specs.Reaching.{HasOne}

-- ---- the greatest number so far

module _ {K : Type 0} (key : K → ℕ) where
  -- They are what `scan` gives.
  pub scanned : (top : ℕ) (xs : List K)
      → scan (λ a x. max a (key x)) (λ a x. max a (key x)) top xs ≡ greatest_ends key top xs
  scanned top [] = refl
  scanned top (x ∷ xs) = ap (λ l. max top (key x) ∷ l) (scanned (max top (key x)) xs)

  -- Where the greatest number up to a place reaches a bound, one before it did, or one of the elements up to there
  -- does.
  reached : (top : ℕ) (xs : List K) (k d bound : ℕ) → k < length xs → bound ≤ get_or (greatest_ends key top xs) k d
      → (bound ≤ top) ⊎ ((j : ℕ) × (j ≤ k) × ((z : K) → bound ≤ key (get_or xs j z)))
  reached top [] k d bound l h = absurd (omega arith)
  reached top (x ∷ xs) zero d bound l h =
      elim (cases_lt top bound) [ inl low ↦ inr (0, omega arith, λ z. omega (arith, h, low)) | inr at ↦ inl at ]
  reached top (x ∷ xs) (suc k) d bound l h = elim (reached (max top (key x)) xs k d bound (omega arith) h) [
    | inl a ↦ elim (cases_lt top bound) [ inl low ↦ inr (0, omega arith, λ z. omega (arith, a, low)) | inr at ↦ inl at ]
    | inr (j, few, reaches) ↦ inr (suc j, omega (arith, few), reaches)
  ]

  -- The first whose number lies above a bound is the first up to which the greatest number does.
  pub first_reached : (top : ℕ) (xs : List K) (k d bound : ℕ) (z : K) → top ≤ bound → k < length xs
      → AllWithin (λ n. n ≤ bound) (greatest_ends key top xs) 0 k → bound < get_or (greatest_ends key top xs) k d
      → bound < key (get_or xs k z)
  first_reached top [] k d bound z low l below above = absurd (omega arith)
  first_reached top (x ∷ xs) zero d bound z low l below above = omega arith
  first_reached top (x ∷ xs) (suc k) d bound z low l below above =
      first_reached (max top (key x)) xs k d bound z (below 0 d (omega arith) (omega arith)) (omega arith)
      (λ i e a b. below (suc i) e (omega arith) (omega arith)) above

-- ---- ranges

-- One of the ranges that begin by an offset ends at or behind another, where the greatest end of those does.
pub one_reaches : (runs : List Run) (last start end d : ℕ) → last < length runs
    → AllWithin (λ r. r.start ≤ start) runs 0 (last + 1)
    → AllWithin (λ r. start < r.start) runs (last + 1) (length runs)
    → (end ≤ get_or (greatest_ends (λ r. r.end) 0 runs) last d) ↔ HasOne runs start end
one_reaches runs last start end d l below above = (
  λ h.
      let z = run 0 0 in
      elim (reached (λ (r : Run). r.end) 0 runs last d end l h) [
        | inl none ↦ (
          get_or runs last z,
          In-at runs last z l,
          below last z (omega arith) (omega arith),
          omega (arith, none),
        )
        | inr (j, few, reaches) ↦ (
          get_or runs j z,
          In-at runs j z (omega (arith, few, l)),
          below j z (omega arith) (omega (arith, few)),
          reaches z,
        )
      ],
  λ (r, i, from, to).
      let (j, there, is) = Contains-from_In r runs i in
      let many = length-ends (λ (r : Run). r.end) 0 runs in
      elim (cases_lt last j) [
        | inl late ↦ (
            let behind = subst (λ (r : Run). start < r.start) is (above j r (omega (arith, late)) there) in
            absurd (omega (arith, behind, from)))
        | inr early ↦ (
            let own = subst (λ (q : Run). q.end ≤ get_or (greatest_ends (λ r. r.end) 0 runs) j d) is
            (own_end (λ (r : Run). r.end) 0 runs j d r there) in
            let rise = ends-rise (λ (r : Run). r.end) 0 runs j last d early (omega (arith, l, many)) in
            omega (arith, to, own, rise))
      ],
)

-- Where none begins by an offset, none has it.
pub none_reaches : (runs : List Run) (start end : ℕ) → AllWithin (λ r. start < r.start) runs 0 (length runs)
    → HasOne runs start end → ⊥
none_reaches runs start end above (r, i, from, to) = grind (arith, Contains-from_In)
