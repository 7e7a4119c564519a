-- Sets of offsets that ranges make.
use Rattle.mxf_views.proofs.Common.{◌≡◌, ◌↔◌, ◌⊎◌, ◌<◌, ◌≤◌, ◌+◌, ℕ, List, [], ◌∷◌, ◌++◌, refl, sym, subst, inl}
use Rattle.mxf_views.proofs.Common.{inr, arith, get_or, length, take, IsPermutation, take_more, In, In-append}
use Rattle.mxf_views.proofs.Common.{LiesIn-with_run, with_run, IsWithin, LiesIn, SameOffsets}
use Rattle.mxf_catalogue.specs.declared.run.Run.{Run}
use Rattle.mxf_units.proofs.NextPlaceLaws.{permuted}

-- ---- another order

-- Lists with the same members have the same offsets.
pub offsets_permuted : (xs ys runs : List Run) → IsPermutation xs ys → SameOffsets runs ys → SameOffsets runs xs
offsets_permuted xs ys runs p same at = (
  λ h. let s = (same at).0 h in (s.0, (permuted xs ys p s.0).0 s.1, s.2),
  λ h. (same at).1 (h.0, (permuted xs ys p h.0).1 h.1, h.2),
)

-- ---- a range more

-- Some of two lists are some of one of them.
pub some_both : {K : Type 0} (P : K → Type 0) (xs ys : List K)
    → ((x : K) × In x (xs ++ ys) × P x) ↔ (((x : K) × In x xs × P x) ⊎ ((x : K) × In x ys × P x))
some_both P xs ys = (
  λ (x, i, p). elim ((In-append x xs ys).0 i) [ inl k ↦ inl (x, k, p) | inr k ↦ inr (x, k, p) ],
  λ h. elim h [
    | inl (x, k, p) ↦ (x, (In-append x xs ys).1 (inl k), p)
    | inr (x, k, p) ↦ (x, (In-append x xs ys).1 (inr k), p)
  ],
)

-- Some of a list and one more behind it are some of the list, or that one.
pub some_end : {K : Type 0} (P : K → Type 0) (xs : List K) (y : K)
    → ((x : K) × In x (xs ++ y ∷ []) × P x) ↔ (((x : K) × In x xs × P x) ⊎ P y)
some_end P xs y =
    let both = some_both P xs (y ∷ []) in (
      λ h. elim (both.0 h) [ inl s ↦ inl s | inr (x, k, p) ↦ elim k [ inl e ↦ inr (subst P e p) | inr z ↦ absurd z ] ],
      λ h. both.1 (elim h [ inl s ↦ inl s | inr p ↦ inr (y, inl refl, p) ]),
    )

-- What lies in the first ranges and the next lies in them or in that one.
lies_more : (runs : List Run) (i : ℕ) (d : Run) (at : ℕ) → i < length runs
    → LiesIn (take (i + 1) runs) at ↔ LiesIn (take i runs) at ⊎ IsWithin (get_or runs i d) at
lies_more runs i d at here = rw (take_more runs i d here)
    (some_end (λ q. IsWithin q at) (take i runs) (get_or runs i d))

-- A range was added to a cover.
pub added-step : (runs old new : List Run) (i : ℕ) (d : Run) → i < length runs
    → new ≡ with_run (get_or runs i d) old → SameOffsets old (take i runs) → SameOffsets new (take (i + 1) runs)
added-step runs old new i d here grown same at =
    let r = get_or runs i d in
    let a = LiesIn-with_run r old at in
    let b = lies_more runs i d at here in (
      λ h. b.1 (elim (a.0 (subst (λ (l : List Run). LiesIn l at) grown h)) [
        | inl k ↦ inr k
        | inr k ↦ inl ((same at).0 k)
      ]),
      λ h. subst (λ (l : List Run). LiesIn l at) (sym grown) (a.1 (elim (b.0 h) [
        | inl k ↦ inr ((same at).1 k)
        | inr k ↦ inl k
      ])),
    )

-- An empty range was left out.
pub skipped-step : (runs old new : List Run) (i : ℕ) (d : Run) → i < length runs
    → (get_or runs i d).end ≤ (get_or runs i d).start → new ≡ old → SameOffsets old (take i runs)
    → SameOffsets new (take (i + 1) runs)
skipped-step runs old new i d here none kept same at =
    let r = get_or runs i d in
    let b = lies_more runs i d at here in (
      λ h. b.1 (inl ((same at).0 (subst (λ (l : List Run). LiesIn l at) kept h))),
      λ h. subst (λ (l : List Run). LiesIn l at) (sym kept) (elim (b.0 h) [
        | inl k ↦ (same at).1 k
        | inr w ↦ (
            let from : r.start ≤ at = w.from in
            let before : at + 1 ≤ r.end = w.before in absurd (omega (arith, from, before, none)))
      ]),
    )
