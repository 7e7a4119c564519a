-- Runs that touch a run, and offsets in runs, by their places in a cover.
use Rattle.mxf_klv.proofs.Common.{max, slice_set, AllByRecursion, AllWithin, IsNonDecreasingBy, Decides, ◌==◌, ◌&&◌}
use Rattle.mxf_klv.proofs.Common.{eqb-true, eq-eqb, ap, subst, inl, inr, arith, get_or, ltb-true, ltb-false, slice_get}
use Rattle.mxf_klv.proofs.Common.{get_or_from_slice_get, slice_get_within, In}
use Rattle.std.specs.Prelude.{◌≡◌, ℕ, suc, zero, ◌+◌, ◌<◌, ◌≤◌, nat_lt, true, false, ◌↔◌, ◌⊎◌, List, [], ◌∷◌, ◌++◌}
use Rattle.std.specs.Prelude.{length, take, drop, refl, ◌-◌, None, Some}
use Rattle.std.proofs.lemmas.Option.{slice_get-get_or}
use Rattle.mxf_catalogue.specs.declared.run.Run.{Run}
use Rattle.mxf_catalogue.specs.Runs.{AreMaximal, IsWithin, LiesIn, SameOffsets, run}
use Rattle.mxf_catalogue.specs.Covers.{IsCover, IsRun, both, spanned, with_run, union_of_runs, gaps_from, gaps_of_runs}
use Rattle.mxf_catalogue.specs.Covers.{IsBetween, AreGapsOf, LiesIn-first, with_run_cases}
use Rattle.mxf_catalogue.proofs.RunLaws.{same_runs, AreMaximal-lower, at_or_above}
use Rattle.mxf_klv.proofs.Lists.{Contains-from_In, In-at}

-- ---- runs with one more are a cover

AreMaximal-with_run : (low : ℕ) (r : Run) (runs : List Run) → low ≤ r.start → r.start < r.end → AreMaximal low runs
    → AreMaximal low (with_run r runs)
AreMaximal-with_run low r [] l b m = (l, b, tt)
AreMaximal-with_run low r (s ∷ runs) l b m =
    let c : low ≤ s.start = m.0 in
    let d : s.start < s.end = m.1 in
    with_run_cases r s runs (AreMaximal low) (λ e. (l, b, (omega arith, m.1, m.2)))
    (λ e. (m.0, m.1, AreMaximal-with_run (s.end + 1) r runs (omega arith) b m.2))
    (λ e f. AreMaximal-with_run low (both r s) runs (omega arith) (omega arith)
    (AreMaximal-lower low (s.end + 1) runs (omega arith) m.2))

ends-with_run : (high : ℕ) (r : Run) (runs : List Run) → r.end ≤ high → AllByRecursion (λ s. s.end ≤ high) runs
    → AllByRecursion (λ s. s.end ≤ high) (with_run r runs)
ends-with_run high r [] l a = (l, tt)
ends-with_run high r (s ∷ runs) l a =
    grind (arith, ends-with_run high r runs l a.1, ends-with_run high (both r s) runs (omega arith) a.1)

pub IsCover-with_run : (r : Run) (runs : List Run) → IsRun r → IsCover runs → IsCover (with_run r runs)
IsCover-with_run r runs is c = grind (arith, AreMaximal-with_run, ends-with_run)

pub IsCover-union_of_runs : (runs others : List Run) → IsCover runs → IsCover others
    → IsCover (union_of_runs runs others)
IsCover-union_of_runs runs [] c d = c
IsCover-union_of_runs runs (s ∷ others) c d =
    grind (arith, AreMaximal-lower, IsCover-with_run, IsCover-union_of_runs (with_run s runs) others)

-- covers of the same offsets are one list
pub same_covers : (a b : List Run) → IsCover a → IsCover b → SameOffsets a b → a ≡ b
same_covers a b c d = same_runs 0 0 a b c.maximal d.maximal

-- ---- the places of runs

-- all runs from a place on start at or above the bound
above : (low : ℕ) (runs : List Run) (k : ℕ) (d : Run) → AreMaximal low runs → k < length runs
    → low ≤ (get_or runs k d).start
above low [] k d m l = absurd (omega arith)
above low (r ∷ runs) zero d m l = m.0
above low (r ∷ runs) (suc k) d m l = omega (arith, above (r.end + 1) runs k d m.2 (omega arith))

-- the runs from one place up to another touch the run, those before end below it, those behind start above it
pub with_run_at : (low : ℕ) (r : Run) (runs : List Run) (a b : ℕ) → AreMaximal low runs → a ≤ length runs
    → b ≤ length runs → AllWithin (λ s. s.end < r.start) runs 0 a
    → AllWithin (λ s. r.start ≤ s.end) runs a (length runs) → AllWithin (λ s. s.start ≤ r.end) runs 0 b
    → AllWithin (λ s. r.end < s.start) runs b (length runs) → r.start < r.end
    → with_run r runs ≡ take a runs ++ spanned r (drop a (take b runs)) ∷ drop b runs
with_run_at low r [] zero zero m la lb f g h k n = refl
with_run_at low r [] (suc a) b m la lb f g h k n = absurd (omega arith)
with_run_at low r [] zero (suc b) m la lb f g h k n = absurd (omega arith)
with_run_at low r (s ∷ ss) (suc a) zero m la lb f g h k n =
    let p : s.end < r.start = f 0 s (omega arith) (omega arith) in
    let q : r.end < s.start = k 0 s (omega arith) (omega arith) in
    let t : s.start < s.end = m.1 in absurd (omega arith)
with_run_at low r (s ∷ ss) (suc a) (suc b) m la lb f g h k n =
    let p : s.end < r.start = f 0 s (omega arith) (omega arith) in
    let q : s.start ≤ r.end = h 0 s (omega arith) (omega arith) in
    let ih = with_run_at (s.end + 1) r ss a b m.2 (omega arith) (omega arith)
    (λ j d _ l. f (suc j) d (omega arith) (omega arith)) (λ j d l o. g (suc j) d (omega arith) (omega arith))
    (λ j d _ l. h (suc j) d (omega arith) (omega arith)) (λ j d l o. k (suc j) d (omega arith) (omega arith)) n in
    with_run_cases r s ss (λ l. l ≡ s ∷ (take a ss ++ spanned r (drop a (take b ss)) ∷ drop b ss))
    (λ e. absurd (omega arith)) (λ e. ap (λ l. s ∷ l) ih) (λ e t. absurd (omega arith))
with_run_at low r (s ∷ ss) zero zero m la lb f g h k n =
    let q : r.end < s.start = k 0 s (omega arith) (omega arith) in
    let t : s.start < s.end = m.1 in
    with_run_cases r s ss (λ l. l ≡ r ∷ s ∷ ss) (λ e. refl) (λ e. absurd (omega arith)) (λ e t. absurd (omega arith))
with_run_at low r (s ∷ ss) zero (suc b) m la lb f g h k n =
    let p : r.start ≤ s.end = g 0 s (omega arith) (omega arith) in
    let q : s.start ≤ r.end = h 0 s (omega arith) (omega arith) in
    let ih = with_run_at (s.end + 1) (both r s) ss zero b m.2 (omega arith) (omega arith)
    (λ j d _ l. absurd (omega arith))
    (λ j d l o. let t : r.start ≤ (get_or ss j d).end = g (suc j) d (omega arith) (omega arith) in omega arith)
    (λ j d _ l. let t : (get_or ss j d).start ≤ r.end = h (suc j) d (omega arith) (omega arith) in omega arith)
    (λ j d l o.
    let t : r.end < (get_or ss j d).start = k (suc j) d (omega arith) (omega arith) in
    let u = above (s.end + 1) ss j d m.2 o in omega (arith, u)) (omega arith) in
    with_run_cases r s ss (λ l. l ≡ spanned (both r s) (take b ss) ∷ drop b ss)
    (λ e. absurd (omega arith)) (λ e. absurd (omega arith)) (λ e t. ih)

-- the starts and the ends of a cover's runs rise
pub starts_rise : (low : ℕ) (runs : List Run) → AreMaximal low runs → IsNonDecreasingBy (λ r. r.start) runs
starts_rise low [] m i j d l h = absurd (omega arith)
starts_rise low (r ∷ runs) m zero zero d l h = omega arith
starts_rise low (r ∷ runs) m zero (suc j) d l h = omega (arith, above (r.end + 1) runs j d m.2 (omega arith))
starts_rise low (r ∷ runs) m (suc i) zero d l h = absurd (omega arith)
starts_rise low (r ∷ runs) m (suc i) (suc j) d l h = starts_rise (r.end + 1) runs m.2 i j d (omega arith) (omega arith)

pub start_below_end : (low : ℕ) (runs : List Run) (k : ℕ) (d : Run) → AreMaximal low runs → k < length runs
    → (get_or runs k d).start < (get_or runs k d).end
start_below_end low [] k d m l = absurd (omega arith)
start_below_end low (r ∷ runs) zero d m l = m.1
start_below_end low (r ∷ runs) (suc k) d m l = start_below_end (r.end + 1) runs k d m.2 (omega arith)

-- the first run stands alone
pub with_run_first : (r : Run) (runs : List Run) → None ≡ slice_get runs (length runs - 1)
    → runs ++ r ∷ [] ≡ with_run r runs
with_run_first r [] e = refl
with_run_first r (x ∷ xs) e = cc (slice_get-get_or (x ∷ xs) (length (x ∷ xs) - 1) x (omega arith))

-- a run that begins above the end of the last goes behind it
pub with_run_behind : (low k : ℕ) (r s : Run) (runs : List Run) → AreMaximal low runs → k + 1 ≡ length runs
    → get_or runs k s ≡ s → s.end < r.start → r.start < r.end → runs ++ r ∷ [] ≡ with_run r runs
with_run_behind low k r s [] m e g t n = absurd (omega arith)
with_run_behind low zero r s (x ∷ []) m e g t n = grind (arith, with_run_cases)
with_run_behind low zero r s (x ∷ y ∷ ys) m e g t n = absurd (omega arith)
with_run_behind low (suc k) r s (x ∷ xs) m e g t n =
    grind (arith, above, start_below_end, with_run_behind (x.end + 1) k r s xs m.2 (omega arith) g t n)

-- a run that begins at the end of the last makes one run with it
pub with_run_grown : (low k : ℕ) (r s : Run) (runs : List Run) → AreMaximal low runs → k + 1 ≡ length runs
    → get_or runs k s ≡ s → s.end ≡ r.start → r.start < r.end → slice_set runs k (run s.start r.end) ≡ with_run r runs
with_run_grown low k r s [] m e g t n = absurd (omega arith)
with_run_grown low zero r s (x ∷ []) m e g t n = grind (arith, run s.start r.end)
with_run_grown low zero r s (x ∷ y ∷ ys) m e g t n = absurd (omega arith)
with_run_grown low (suc k) r s (x ∷ xs) m e g t n =
    grind (arith, above, start_below_end, with_run_cases, with_run_grown (x.end + 1) k r s xs m.2 (omega arith) g t n)

pub end_within : (high : ℕ) (runs : List Run) (k : ℕ) (d : Run) → AllByRecursion (λ r. r.end ≤ high) runs
    → k < length runs → (get_or runs k d).end ≤ high
end_within high [] k d a l = absurd (omega arith)
end_within high (r ∷ runs) zero d a l = a.0
end_within high (r ∷ runs) (suc k) d a l = end_within high runs k d a.1 (omega arith)

pub ends_rise : (low : ℕ) (runs : List Run) → AreMaximal low runs → IsNonDecreasingBy (λ r. r.end) runs
ends_rise low [] m i j d l h = absurd (omega arith)
ends_rise low (r ∷ runs) m zero zero d l h = omega arith
ends_rise low (r ∷ runs) m zero (suc j) d l h = grind (arith, above, start_below_end)
ends_rise low (r ∷ runs) m (suc i) zero d l h = absurd (omega arith)
ends_rise low (r ∷ runs) m (suc i) (suc j) d l h = ends_rise (r.end + 1) runs m.2 i j d (omega arith) (omega arith)

-- the runs that end below a run come before those that start above it
pub places_in_order : (r : Run) (runs : List Run) (a b : ℕ) → AreMaximal 0 runs → a ≤ length runs
    → AllWithin (λ s. s.end < r.start) runs 0 a → AllWithin (λ s. r.end < s.start) runs b (length runs)
    → r.start < r.end → a ≤ b
places_in_order r runs a b m l f k n = grind (arith, ltb-false, ltb-true, start_below_end)

-- ---- offsets in runs

pub lies_at : (runs : List Run) (k : ℕ) (d : Run) (at : ℕ) → k < length runs → IsWithin (get_or runs k d) at
    → LiesIn runs at
lies_at [] k d at l h = absurd (omega arith)
lies_at (r ∷ runs) zero d at l h = (LiesIn-first r runs at).1 (inl h)
lies_at (r ∷ runs) (suc k) d at l h = (LiesIn-first r runs at).1 (inr (lies_at runs k d at (omega arith) h))

place_of : (runs : List Run) (d : Run) (at : ℕ) → LiesIn runs at
    → (k : ℕ) × (k < length runs) × IsWithin (get_or runs k d) at
place_of [] d at h = absurd h.1
place_of (r ∷ runs) d at h = elim ((LiesIn-first r runs at).0 h) [
  | inl w ↦ (0, omega arith, w)
  | inr k ↦ let p = place_of runs d at k in let l : p.0 < length runs = p.1 in (suc p.0, omega arith, p.2)
]

-- where the first run that ends above an offset starts at or below a last one, an offset between the two lies in it
pub is_met : (runs : List Run) (a first last : ℕ) (r : Run) → AreMaximal 0 runs → first ≤ last → a < length runs
    → r ≡ get_or runs a r → AllWithin (λ s. first < s.end) runs a (length runs) → r.start ≤ last
    → (at : ℕ) × LiesIn runs at × (first ≤ at) × (at ≤ last)
is_met runs a first last r m o l e up below =
    grind (arith, start_below_end 0 runs a r m l, lies_at runs a r (max r.start first) l)

-- what lies in runs lies in the first that ends above, or behind it
pub is_first : (runs : List Run) (a first at : ℕ) (d : Run) → AreMaximal 0 runs
    → AllWithin (λ s. s.end ≤ first) runs 0 a → LiesIn runs at → first ≤ at
    → (a < length runs) × ((get_or runs a d).start ≤ at)
is_first runs a first at d m down h o = grind (arith, place_of runs d at h, starts_rise 0 runs m a)

-- `==` of runs tells whether they are one
pub run_eq-Decides : (r s : Run) → Decides ((r.start == s.start) && (r.end == s.end)) (r ≡ s)
run_eq-Decides r s = grind (arith, eq-eqb, eqb-true)

-- ---- gaps

-- the gaps of runs that start above an offset where a run ends: none touches it
maximal_above : (low : ℕ) (runs : List Run) → AreMaximal (low + 1) runs → AreMaximal low (gaps_from low runs)
maximal_above low [] m = tt
maximal_above low (r ∷ runs) m = grind (arith, AreMaximal-lower, ltb-false, maximal_above r.end runs m.2)

maximal_gaps : (runs : List Run) → AreMaximal 0 runs → AreMaximal 0 (gaps_of_runs runs)
maximal_gaps [] m = tt
maximal_gaps (r ∷ runs) m =
    grind (
      arith,
      nat_lt 0 r.start,
      run 0 r.start,
      gaps_from r.end runs,
      AreMaximal-lower (r.start + 1) r.end (gaps_from r.end runs) (omega arith) (maximal_above r.end runs m.2),
      maximal_above r.end runs m.2,
      AreMaximal-lower 0 r.end (gaps_from r.end runs) (omega arith) (maximal_above r.end runs m.2),
    )

-- the offset is at or above the first, and lies below the end of some run and in none
abbrev IsBetweenFrom : ℕ → List Run → ℕ → Type 0
IsBetweenFrom low runs at = (low ≤ at) × IsBetween runs at

first_gap : (low : ℕ) (r : Run) (runs : List Run) (at : ℕ) → AreMaximal low (r ∷ runs)
    → IsBetweenFrom low (r ∷ runs) at ↔ (((low ≤ at) × (at < r.start)) ⊎ IsBetweenFrom r.end runs at)
first_gap low r runs at m =
    let a : low ≤ r.start = m.0 in
    let b : r.start < r.end = m.1 in (
      λ h.
          let l : low ≤ at = h.0 in
          elim (nat_lt at r.start) as (λ c. nat_lt at r.start ≡ c
          → ((low ≤ at) × (at < r.start)) ⊎ IsBetweenFrom r.end runs at) [
            | true ↦ λ e. inl (l, ltb-true _ _ e)
            | false ↦ λ e.
                let f : r.start ≤ at = ltb-false _ _ e in
                elim (nat_lt at r.end) as (λ c. nat_lt at r.end ≡ c
                → ((low ≤ at) × (at < r.start)) ⊎ IsBetweenFrom r.end runs at) [
                  | true ↦ λ g.
                      let k : at < r.end = ltb-true _ _ g in
                      absurd (h.1.in_none ((LiesIn-first r runs at).1
                      (inl (record { from = f; before = omega arith }))))
                  | false ↦ λ g.
                      let k : r.end ≤ at = ltb-false _ _ g in
                      inr (
                        k,
                        record {
                          below = elim h.1.below.1 [
                            | inl e ↦ (let t : at < h.1.below.0.end = h.1.below.2 in
                                let u : at < r.end = subst (λ (q : Run). at < q.end) e t in absurd (omega arith))
                            | inr i ↦ (h.1.below.0, i, h.1.below.2)
                          ];
                          in_none = λ i. h.1.in_none ((LiesIn-first r runs at).1 (inr i));
                        },
                      )
                ] refl
          ] refl,
      λ h. elim h [
        | inl k ↦
            let u : low ≤ at = k.0 in
            let v : at < r.start = k.1 in (
              k.0,
              record {
                below = (r, inl refl, omega arith);
                in_none = λ i. elim ((LiesIn-first r runs at).0 i) [
                  | inl w ↦ (let f : r.start ≤ at = w.from in omega arith)
                  | inr j ↦ (let f = at_or_above (r.end + 1) runs at m.2 j in omega (arith, f))
                ];
              },
            )
        | inr k ↦
            let u : r.end ≤ at = k.0 in (
              omega arith,
              record {
                below = (k.1.below.0, inr k.1.below.1, k.1.below.2);
                in_none = λ i. elim ((LiesIn-first r runs at).0 i) [
                  | inl w ↦ (let f : at + 1 ≤ r.end = w.before in omega arith)
                  | inr j ↦ k.1.in_none j
                ];
              },
            )
      ],
    )

offsets_of_gaps : (low : ℕ) (runs : List Run) (at : ℕ) → AreMaximal low runs
    → LiesIn (gaps_from low runs) at ↔ IsBetweenFrom low runs at
offsets_of_gaps low [] at m = (λ h. absurd h.1, λ h. absurd h.1.below.1)
offsets_of_gaps low (r ∷ runs) at m =
    grind (
      arith,
      AreMaximal-lower r.end (r.end + 1) runs (omega arith) m.2,
      first_gap low r runs at m,
      nat_lt low r.start,
      run low r.start,
      gaps_from r.end runs,
      LiesIn-first (run low r.start) (gaps_from r.end runs) at,
      offsets_of_gaps r.end runs at (AreMaximal-lower r.end (r.end + 1) runs (omega arith) m.2),
    )

pub gaps_by_definition : (runs : List Run) → IsCover runs → AreGapsOf runs (gaps_of_runs runs)
gaps_by_definition runs c = record {
  maximal = maximal_gaps runs c.maximal;
  offsets = λ at.
      let all = offsets_of_gaps 0 runs at c.maximal in
      (λ h. (all.0 h).1, λ h. all.1 (omega arith, h));
}

-- there are no more gaps than runs
pub length-gaps : (low : ℕ) (runs : List Run) → length (gaps_from low runs) ≤ length runs
length-gaps low [] = omega arith
length-gaps low (r ∷ runs) = grind (arith, length-gaps r.end runs)

-- ---- the greatest end

-- The end of the last run lies above what lies in the runs, and just above one of the offsets.
pub last_end : (runs : List Run) (r : Run) → AreMaximal 0 runs → slice_get runs (length runs - 1) ≡ Some r
    → (bound : ℕ) → r.end ≤ bound ↔ ((offset : ℕ) → LiesIn runs offset → offset < bound)
last_end runs r m e bound =
    let k = length runs - 1 in
    let within = slice_get_within runs k r e in
    let at = get_or_from_slice_get runs k r r e in
    let filled : r.start < r.end =
    subst (λ (s : Run). s.start < s.end) at (start_below_end 0 runs k r m within) in
    let held : In r runs = subst (λ (s : Run). In s runs) at (In-at runs k r within) in (
      λ l offset h.
          let low : h.0.end ≤ r.end = below_last h.0 h.1 in let b : offset + 1 ≤ h.0.end = h.2.before in
          omega (arith, low, b, l),
      λ f.
          let last : r.start ≤ r.end - 1 = omega (arith, filled) in
          let end : r.end - 1 + 1 ≤ r.end = omega (arith, filled) in
          let b = f (r.end - 1) (r, held, record { from = last; before = end }) in omega (arith, b),
    )
  where
    below_last : (s : Run) → In s runs → s.end ≤ r.end
    below_last s h =
        let c = Contains-from_In s runs h in
        let k = length runs - 1 in
        let last = slice_get_within runs k r e in
        let i : c.0 < length runs = c.1 in
        let up = ends_rise 0 runs m c.0 k s (omega arith) last in
        let there = ap (λ (t : Run). t.end) c.2 in
        let at = ap (λ (t : Run). t.end) (get_or_from_slice_get runs k r s e) in omega (arith, up, there, at)

-- between a run and a later one lies an offset that is in none
behind : (low : ℕ) (runs : List Run) (i j : ℕ) (d : Run) → AreMaximal low runs → i < j → j < length runs
    → (get_or runs i d).end < (get_or runs j d).start
behind low [] i j d m l h = absurd (omega arith)
behind low (r ∷ runs) i zero d m l h = absurd (omega arith)
behind low (r ∷ runs) zero (suc j) d m l h = omega (arith, above (r.end + 1) runs j d m.2 (omega arith))
behind low (r ∷ runs) (suc i) (suc j) d m l h = behind (r.end + 1) runs i j d m.2 (omega arith) (omega arith)

-- the end of a run lies in none
pub end_in_none : (runs : List Run) (a : ℕ) (d : Run) → AreMaximal 0 runs → a < length runs
    → LiesIn runs (get_or runs a d).end → ⊥
end_in_none runs a d m l h =
    grind (arith, place_of runs d (get_or runs a d).end h, nat_lt a, behind 0 runs a, ends_rise 0 runs m)

-- where all offsets of a range lie in runs, they lie in the first that ends above its start
pub is_within_first : (runs : List Run) (a start end : ℕ) (d : Run) → AreMaximal 0 runs → start < end
    → AllWithin (λ s. s.end ≤ start) runs 0 a → AllWithin (λ s. start < s.end) runs a (length runs)
    → ((at : ℕ) → start ≤ at → at < end → LiesIn runs at)
    → (a < length runs) × ((get_or runs a d).start ≤ start) × (end ≤ (get_or runs a d).end)
is_within_first runs a start end d m o down up h =
    grind (
      arith,
      is_first runs a start start d m down (h start (omega arith) o) (omega arith),
      nat_lt (get_or runs a d).end end,
      end_in_none runs a d m,
    )
