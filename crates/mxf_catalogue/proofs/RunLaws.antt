-- A set of offsets has one list of maximal runs.
use Rattle.std.proofs.Common.{◌≡◌, ℕ, ◌+◌, ◌<◌, ◌≤◌, ◌⊎◌, List, [], ◌∷◌, true, false, refl, sym, inl, inr, arith}
use Rattle.std.specs.Prelude.{nat_lt}
use Rattle.std.proofs.lemmas.Bool.{ltb-true, ltb-false}
use Rattle.mxf_catalogue.specs.declared.run.Run.{Run}
use Rattle.mxf_catalogue.specs.Runs.{AreMaximal, IsWithin, LiesIn, SameOffsets}

-- what lies in runs lies in the first of them or in the others
first_or_others : (r : Run) (rs : List Run) (at : ℕ) → LiesIn (r ∷ rs) at → IsWithin r at ⊎ LiesIn rs at
first_or_others r rs at h = grind arith

in_first : (r : Run) (rs : List Run) (at : ℕ) → IsWithin r at → LiesIn (r ∷ rs) at
in_first r rs at w = (r, inl refl, w)

in_others : (r : Run) (rs : List Run) (at : ℕ) → LiesIn rs at → LiesIn (r ∷ rs) at
in_others r rs at (q, k, w) = (q, inr k, w)

pub AreMaximal-lower : (low high : ℕ) (runs : List Run) → low ≤ high → AreMaximal high runs → AreMaximal low runs
AreMaximal-lower low high [] l m = tt
AreMaximal-lower low high (r ∷ runs) l m = let a : high ≤ r.start = m.0 in (omega arith, m.1, m.2)

-- what lies in runs is at or above the offset from which they rise
pub at_or_above : (low : ℕ) (rs : List Run) (at : ℕ) → AreMaximal low rs → LiesIn rs at → low ≤ at
at_or_above low [] at m (q, k, w) = elim k [ ]
at_or_above low (r ∷ rs) at m h = grind (arith, first_or_others, at_or_above (r.end + 1) rs at m.2)

-- the start of the first run is the least offset
least : (low lo : ℕ) (r s : Run) (rs ss : List Run) → AreMaximal low (r ∷ rs) → AreMaximal lo (s ∷ ss)
    → SameOffsets (r ∷ rs) (s ∷ ss) → s.start ≤ r.start
least low lo r s rs ss m n e =
    let a : r.start < r.end = m.1 in
    let here : IsWithin r r.start = record { from = omega arith; before = omega arith } in
    at_or_above s.start (s ∷ ss) r.start (omega arith, n.1, n.2) ((e r.start).0 (in_first r rs r.start here))

-- the end of the first run is the first offset that lies in none
last : (low lo : ℕ) (r s : Run) (rs ss : List Run) → AreMaximal low (r ∷ rs) → AreMaximal lo (s ∷ ss)
    → r.start ≡ s.start → SameOffsets (r ∷ rs) (s ∷ ss) → s.end ≤ r.end
last low lo r s rs ss m n e same =
    elim (nat_lt r.end s.end) as (λ b. nat_lt r.end s.end ≡ b → s.end ≤ r.end) [
      | true ↦ λ t.
          let f : r.end < s.end = ltb-true r.end s.end t in
          let a : r.start < r.end = m.1 in
          let there : IsWithin s r.end = record { from = omega arith; before = omega arith } in
          elim (first_or_others r rs r.end ((same r.end).1 (in_first s ss r.end there))) [
            | inl w ↦ (let g : r.end + 1 ≤ r.end = w.before in absurd (omega arith))
            | inr k ↦ (let g = at_or_above (r.end + 1) rs r.end m.2 k in absurd (omega (arith, g)))
          ]
      | false ↦ λ t. ltb-false r.end s.end t
    ] refl

same_run : (r s : Run) → r.start ≡ s.start → r.end ≡ s.end → r ≡ s
same_run r s a b i = record { start = a i; end = b i }

pub same_runs : (low lo : ℕ) (rs ss : List Run) → AreMaximal low rs → AreMaximal lo ss → SameOffsets rs ss → rs ≡ ss
same_runs low lo [] [] m n e = refl
same_runs low lo [] (s ∷ ss) m n e =
    let a : s.start < s.end = n.1 in
    let here : IsWithin s s.start = record { from = omega arith; before = omega arith } in
    let none : LiesIn [] s.start = (e s.start).1 (in_first s ss s.start here) in elim none.1 [ ]
same_runs low lo (r ∷ rs) [] m n e =
    let a : r.start < r.end = m.1 in
    let here : IsWithin r r.start = record { from = omega arith; before = omega arith } in
    let none : LiesIn [] r.start = (e r.start).0 (in_first r rs r.start here) in elim none.1 [ ]
same_runs low lo (r ∷ rs) (s ∷ ss) m n e =
    let back : SameOffsets (s ∷ ss) (r ∷ rs) = λ at. ((e at).1, (e at).0) in
    let a : s.start ≤ r.start = least low lo r s rs ss m n e in
    let b : r.start ≤ s.start = least lo low s r ss rs n m back in
    let start : r.start ≡ s.start = omega arith in
    let c : s.end ≤ r.end = last low lo r s rs ss m n start e in
    let d : r.end ≤ s.end = last lo low s r ss rs n m (sym start) back in
    let stop : r.end ≡ s.end = omega arith in
    let first : r ≡ s = same_run r s start stop in
    let tails : SameOffsets rs ss = λ at. (
      λ h.
          let f = at_or_above (r.end + 1) rs at m.2 h in
          elim (first_or_others s ss at ((e at).0 (in_others r rs at h))) [
            | inl w ↦ (let g : at + 1 ≤ s.end = w.before in absurd (omega (arith, f)))
            | inr k ↦ k
          ],
      λ h.
          let f = at_or_above (s.end + 1) ss at n.2 h in
          elim (first_or_others r rs at ((e at).1 (in_others s ss at h))) [
            | inl w ↦ (let g : at + 1 ≤ r.end = w.before in absurd (omega (arith, f)))
            | inr k ↦ k
          ],
    ) in
    let rest : rs ≡ ss = same_runs (r.end + 1) (s.end + 1) rs ss m.2 n.2 tails in
    λ i. first i ∷ rest i
