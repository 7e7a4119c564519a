-- Runs that rise don't fall by their IndexSIDs.
use Rattle.mxf_views.proofs.Common.{◌≡◌, ◌∙◌, ◌<◌, ◌≤◌, ◌&&◌, ◌+◌, ◌==◌, ℕ, zero, suc, Bool, false, cond, sym, ap}
use Rattle.mxf_views.proofs.Common.{arith, inl, inr, List, [], ◌∷◌, all-In, In-at, cases_lt, le-ltb, ne_eqb}
use Rattle.mxf_views.proofs.Common.{IsRising, IsNonDecreasingBy, Less, Equal, Greater, Ordering, nat_cmp, ordering_then}
use Rattle.mxf_views.proofs.Common.{nat_le, nat_lt, le-leb, lt-ltb, eq-eqb, filter, lt-leb}
use Rattle.std.proofs.lemmas.Bool.{cases_order}
use Rattle.mxf_clocks.specs.RunOrder.{run_cmp}
use Rattle.mxf_clocks.specs.Runs.{RunParts}

above : (a b : ℕ) → b < a → nat_cmp a b ≡ Greater
above a b h =
    ap (λ t. cond t Less (cond (a == b) Equal Greater)) (le-ltb a b (omega (arith, h)))
    ∙ ap (λ t. cond t Equal Greater) (ne_eqb a b (λ e. omega (arith, h, e)))

not_above : (a b : ℕ) (rest : Ordering) → ordering_then (nat_cmp a b) rest ≡ Less → a ≤ b
not_above a b rest e = elim (cases_lt b a) [
  | inl l ↦ absurd (let g = ap (λ o. ordering_then o rest) (above a b l) in cc)
  | inr l ↦ l
]

at_most : (x y : RunParts) → run_cmp x y ≡ Less → x.index_sid ≤ y.index_sid
at_most x y e = not_above x.index_sid y.index_sid _ e

pub never_falls : (xs : List RunParts) → IsRising run_cmp xs → IsNonDecreasingBy (λ r. r.index_sid) xs
never_falls [] r i j d l h = absurd (omega (arith, h))
never_falls (x ∷ xs) r zero zero d l h = omega arith
never_falls (x ∷ xs) r zero (suc j) d l h =
    at_most x _ (all-In (λ y. run_cmp x y ≡ Less) xs _ r.0 (In-at xs j d (omega (arith, h))))
never_falls (x ∷ xs) r (suc i) zero d l h = absurd (omega (arith, l))
never_falls (x ∷ xs) r (suc i) (suc j) d l h = never_falls xs r.1 i j d (omega (arith, l)) (omega (arith, h))

-- From a number on and below the next lies that number alone.
same_test : (a k : ℕ) → (nat_le k a && nat_lt a (k + 1)) ≡ (a == k)
same_test a k = elim (cases_order a k) [
  | inl e ↦
      ap (λ n. nat_le k n && nat_lt n (k + 1)) e
      ∙ ap (λ b. b && nat_lt k (k + 1)) (le-leb k k (omega arith)) ∙ lt-ltb k (k + 1) (omega arith)
      ∙ sym (eq-eqb a k e)
  | inr (inl l) ↦
      ap (λ b. b && nat_lt a (k + 1)) (lt-leb k a l) ∙ sym (ne_eqb a k (λ e. omega (arith, l, e)))
  | inr (inr g) ↦ both_false a k g ∙ sym (ne_eqb a k (λ e. omega (arith, g, e)))
]
  where
    both_false : (a k : ℕ) → k < a → (nat_le k a && nat_lt a (k + 1)) ≡ false
    both_false a k g =
        ap (λ b. b && nat_lt a (k + 1)) (le-leb k a (omega (arith, g))) ∙ le-ltb a (k + 1) (omega (arith, g))

pub of_one_index : (xs : List RunParts) (k : ℕ)
    → filter (λ r. nat_le k r.index_sid && nat_lt r.index_sid (k + 1)) xs ≡ filter (λ r. r.index_sid == k) xs
of_one_index xs k = ap (λ (p : RunParts → Bool). filter p xs) (λ i r. same_test r.index_sid k i)
