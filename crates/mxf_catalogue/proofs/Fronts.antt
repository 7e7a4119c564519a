-- Fronts and ends of rising lists.
use Rattle.mxf_klv.proofs.Common.{IsTotalOrder, Ordering, Less, sym, subst, inl, inr, In, IsRising}
use Rattle.std.specs.Prelude.{◌≡◌, List, [], ◌∷◌, ◌++◌}
use Rattle.mxf_klv.proofs.Lists.{all_front, all_last, In-end}

module _ {K : Type 0} (R : K → K → Ordering) where
  -- the front of a rising list rises
  pub rising_front : (xs ys : List K) → IsRising R (xs ++ ys) → IsRising R xs
  rising_front [] ys r = tt
  rising_front (x ∷ xs) ys r = (all_front (λ y. R x y ≡ Less) xs ys r.0, rising_front xs ys r.1)

  -- all before the last of a rising list is below it
  pub below_last : (xs : List K) (x z : K) → IsRising R (xs ++ x ∷ []) → In z xs → R z x ≡ Less
  below_last [] x z r h = absurd h
  below_last (y ∷ ys) x z r (inl e) = cc (all_last (λ w. R y w ≡ Less) ys x r.0)
  below_last (y ∷ ys) x z r (inr h) = below_last ys x z r.1 h

module _ {K : Type 0} {R : K → K → Ordering} (o : IsTotalOrder R) where
  -- all of a rising list is below what its last is below
  pub below_all : (whole xs : List K) (y x z : K) → whole ≡ xs ++ y ∷ [] → IsRising R whole → R y x ≡ Less
      → In z whole → R z x ≡ Less
  below_all whole xs y x z e r l h =
      elim ((In-end z y xs whole e).0 h) [
        | inl k ↦ o.trans z y x (below_last R xs y z (subst (IsRising R) e r) k) l
        | inr s ↦ subst (λ w. R w x ≡ Less) (sym s) l
      ]
