-- Covers: sets of offsets as their maximal runs (this project's profile).
use Rattle.std.specs.Prelude.{◌≡◌, ℕ, ◌+◌, ◌<◌, ◌≤◌, nat_lt, min, max, cond, Bool, true, false, ◌&&◌, Option, List, []}
use Rattle.std.specs.Prelude.{◌∷◌, ◌⊎◌, ◌↔◌, refl}
use Rattle.std.specs.Option.{option_map_or}
use Rattle.std.specs.List.{AllByRecursion}
use Rattle.std.proofs.Common.{subst, inl, inr, arith}
use Rattle.std.proofs.lemmas.Bool.{ltb-true, ltb-false}
use Rattle.mxf_klv.specs.Note.{greatest_end}
use Rattle.mxf_klv.specs.Rising.{In}
use Rattle.mxf_catalogue.specs.declared.run.Run.{Run}
use Rattle.mxf_catalogue.specs.Joins.{IsUnion}
use Rattle.mxf_catalogue.specs.Runs.{AreMaximal, IsWithin, LiesIn, run}

-- The run has a byte, and ends at or below the greatest end.
pub record IsRun (r : Run) : Type 0 where
  pub order : r.start < r.end
  pub within : r.end ≤ greatest_end

-- Maximal runs, each of which ends at or below the greatest end.
pub record IsCover (runs : List Run) : Type 0 where
  pub maximal : AreMaximal 0 runs
  pub within : AllByRecursion (λ r. r.end ≤ greatest_end) runs

-- From the least start of two runs to the greatest end.
abbrev pub both : Run → Run → Run
both r s = run (min r.start s.start) (max r.end s.end)

-- The same of a run and others.
abbrev pub spanned : Run → List Run → Run
spanned r [] = r
spanned r (s ∷ others) = spanned (both r s) others

-- Maximal runs with the offsets of one more run, which makes one run with those that it touches.
abbrev pub with_run : Run → List Run → List Run
with_run r [] = r ∷ []
with_run r (s ∷ runs) =
    cond (nat_lt r.end s.start) (r ∷ s ∷ runs)
    (cond (nat_lt s.end r.start) (s ∷ with_run r runs) (with_run (both r s) runs))

-- Maximal runs with the offsets of others.
abbrev pub union_of_runs : List Run → List Run → List Run
union_of_runs runs [] = runs
union_of_runs runs (s ∷ others) = union_of_runs (with_run s runs) others

-- The maximal ranges of offsets that lie in none of the runs, from an offset on and below the greatest end.
abbrev pub gaps_from : ℕ → List Run → List Run
gaps_from low [] = []
gaps_from low (r ∷ runs) = cond (nat_lt low r.start) (run low r.start ∷ gaps_from r.end runs) (gaps_from r.end runs)

abbrev pub gaps_of_runs : List Run → List Run
gaps_of_runs runs = gaps_from 0 runs

-- The run ends above an offset, and begins below another, if there is one.
abbrev pub is_between : ℕ → Option ℕ → Run → Bool
is_between from to r = nat_lt from r.end && option_map_or (λ e. nat_lt r.start e) to true

-- The offset lies below the end of some run and in none.
pub record IsBetween (runs : List Run) (offset : ℕ) : Type 0 where
  pub below : (r : Run) × In r runs × (offset < r.end)
  pub in_none : LiesIn runs offset → ⊥

-- The maximal ranges of offsets that lie below the end of some run and in none.
pub record AreGapsOf (runs gaps : List Run) : Type 0 where
  pub maximal : AreMaximal 0 gaps
  pub offsets : (offset : ℕ) → LiesIn gaps offset ↔ IsBetween runs offset

-- What `Semilattice` asks of the union, with what leads to it.

-- What lies in runs lies in the first of them or in the others.
pub LiesIn-first : (r : Run) (runs : List Run) (at : ℕ) → LiesIn (r ∷ runs) at ↔ IsWithin r at ⊎ LiesIn runs at
LiesIn-first r runs at = (
  λ h. elim h.1 [ inl e ↦ inl (subst (λ (q : Run). IsWithin q at) e h.2) | inr k ↦ inr (h.0, k, h.2) ],
  λ h. elim h [ inl w ↦ (r, inl refl, w) | inr k ↦ (k.0, inr k.1, k.2) ],
)

-- If two runs touch, what lies in both together lies in one of them.
pub in_both : (r s : Run) (at : ℕ) → s.start ≤ r.end → r.start ≤ s.end
    → IsWithin (both r s) at ↔ IsWithin r at ⊎ IsWithin s at
in_both r s at a b = (
  λ h.
      let from : min r.start s.start ≤ at = h.from in
      let before : at + 1 ≤ max r.end s.end = h.before in
      elim (nat_lt at r.end) as (λ c. nat_lt at r.end ≡ c → IsWithin r at ⊎ IsWithin s at) [
        | true ↦ λ e.
            let f : at < r.end = ltb-true _ _ e in
            elim (nat_lt at r.start) as (λ c. nat_lt at r.start ≡ c → IsWithin r at ⊎ IsWithin s at) [
              | true ↦ λ g.
                  let k : at < r.start = ltb-true _ _ g in inr (record { from = omega arith; before = omega arith })
              | false ↦ λ g. inl (record { from = ltb-false _ _ g; before = omega arith })
            ] refl
        | false ↦ λ e.
            let f : r.end ≤ at = ltb-false _ _ e in inr (record { from = omega arith; before = omega arith })
      ] refl,
  λ h. elim h [
    | inl k ↦
        let from : r.start ≤ at = k.from in
        let before : at + 1 ≤ r.end = k.before in record { from = omega arith; before = omega arith }
    | inr k ↦
        let from : s.start ≤ at = k.from in
        let before : at + 1 ≤ s.end = k.before in record { from = omega arith; before = omega arith }
  ],
)

-- What `with_run` gives in each case.
pub with_run_cases : (r s : Run) (runs : List Run) (P : List Run → Type 0) → (r.end < s.start → P (r ∷ s ∷ runs))
    → (s.end < r.start → P (s ∷ with_run r runs))
    → (s.start ≤ r.end → r.start ≤ s.end → P (with_run (both r s) runs)) → P (with_run r (s ∷ runs))
with_run_cases r s runs P below above touch =
    elim (nat_lt r.end s.start) as (λ c. nat_lt r.end s.start ≡ c
    → P (cond c (r ∷ s ∷ runs) (cond (nat_lt s.end r.start) (s ∷ with_run r runs) (with_run (both r s) runs)))) [
      | true ↦ λ e. below (ltb-true _ _ e)
      | false ↦ λ e. elim (nat_lt s.end r.start) as (λ c. nat_lt s.end r.start ≡ c
          → P (cond c (s ∷ with_run r runs) (with_run (both r s) runs))) [
            | true ↦ λ g. above (ltb-true _ _ g)
            | false ↦ λ g. touch (ltb-false _ _ e) (ltb-false _ _ g)
          ] refl
    ] refl

-- What lies in runs with one more lies in it or in one of them.
pub LiesIn-with_run : (r : Run) (runs : List Run) (at : ℕ)
    → LiesIn (with_run r runs) at ↔ IsWithin r at ⊎ LiesIn runs at
LiesIn-with_run r [] at = LiesIn-first r [] at
LiesIn-with_run r (s ∷ runs) at =
    let old = LiesIn-first s runs at in
    with_run_cases r s runs (λ l. LiesIn l at ↔ IsWithin r at ⊎ LiesIn (s ∷ runs) at)
    (λ e. LiesIn-first r (s ∷ runs) at)
    (λ e.
    let ih = LiesIn-with_run r runs at in
    let new = LiesIn-first s (with_run r runs) at in (
      λ h. elim (new.0 h) [
        | inl k ↦ inr (old.1 (inl k))
        | inr k ↦ elim (ih.0 k) [ inl m ↦ inl m | inr m ↦ inr (old.1 (inr m)) ]
      ],
      λ h. new.1 (elim h [
        | inl k ↦ inr (ih.1 (inl k))
        | inr k ↦ elim (old.0 k) [ inl m ↦ inl m | inr m ↦ inr (ih.1 (inr m)) ]
      ]),
    ))
    (λ e f.
    let ih = LiesIn-with_run (both r s) runs at in
    let two = in_both r s at e f in (
      λ h. elim (ih.0 h) [
        | inl k ↦ elim (two.0 k) [ inl m ↦ inl m | inr m ↦ inr (old.1 (inl m)) ]
        | inr k ↦ inr (old.1 (inr k))
      ],
      λ h. ih.1 (elim h [
        | inl k ↦ inl (two.1 (inl k))
        | inr k ↦ elim (old.0 k) [ inl m ↦ inl (two.1 (inr m)) | inr m ↦ inr m ]
      ]),
    ))

-- The union has the offsets of both, and no others.
pub union_of_runs-IsUnion : IsUnion LiesIn union_of_runs
union_of_runs-IsUnion runs [] at = (inl, λ h. elim h [ inl k ↦ k | inr k ↦ absurd k.1 ])
union_of_runs-IsUnion runs (s ∷ others) at =
    let one = LiesIn-with_run s runs at in
    let first = LiesIn-first s others at in
    let ih = union_of_runs-IsUnion (with_run s runs) others at in (
      λ h. elim (ih.0 h) [
        | inl k ↦ elim (one.0 k) [ inl m ↦ inr (first.1 (inl m)) | inr m ↦ inl m ]
        | inr k ↦ inr (first.1 (inr k))
      ],
      λ h. ih.1 (elim h [
        | inl k ↦ inl (one.1 (inr k))
        | inr k ↦ elim (first.0 k) [ inl m ↦ inl (one.1 (inl m)) | inr m ↦ inr m ]
      ]),
    )
