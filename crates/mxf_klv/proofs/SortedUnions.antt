-- A list that is sorted, and then loses what repeats the one before, is the rising list of its members.
use Rattle.std.proofs.Common.{◌≡◌, List, [], ◌∷◌, ◌∙◌, refl, sym, subst, inl, inr, true, Ordering, Less, Equal, Greater}
use Rattle.std.specs.Cmp.{IsTotalOrder}
use Rattle.std.specs.FinSet.{IsAntisymmetric}
use Rattle.std.specs.List.{dedup}
use Rattle.std.specs.List.Retain.{DiffersFromLast, IsFiltered}
use Rattle.std.specs.List.Sorted.{IsPermutation, IsSorted, IsStrictlySortedBy}
use Rattle.std.specs.Ordering.{eq_by_cmp, is_eq}
use Rattle.std.proofs.lemmas.Cmp.{eq_by_cmp_equiv}
use Rattle.std.proofs.lemmas.List.Filters.{dedup_is}
use Rattle.std.proofs.lemmas.List.Kept.{Contains-dedup, Contains-from_dedup, IsStrictlySortedBy-dedup}
use Rattle.std.proofs.lemmas.List.Sorted.{Contains-permutation, IsPermutation-sym}
use Rattle.mxf_klv.specs.Rising.{IsRising, In-union, IsRising-union, same_from_members, union}
use Rattle.mxf_klv.proofs.Lists.{Contains-from_In, In-from_Contains}

alike_equal : (o : Ordering) → is_eq o ≡ true → o ≡ Equal
alike_equal Less e = cc
alike_equal Equal e = refl
alike_equal Greater e = cc

module _ {K : Type 0} (R : K → K → Ordering) (total : IsTotalOrder R) (one : IsAntisymmetric R) where
  rising : (xs : List K) → IsStrictlySortedBy R xs → IsRising R xs
  unfolding IsStrictlySortedBy
  rising [] r = tt
  rising (x ∷ xs) r = (r.0, rising xs r.1)

  sorted-union : (xs ys : List K) → IsPermutation xs ys → IsSorted R ys → dedup (eq_by_cmp R) ys ≡ union R [] xs
  sorted-union xs ys p s =
      let once = dedup (eq_by_cmp R) ys in
      same_from_members total one once (union R [] xs)
      (rising once (IsStrictlySortedBy-dedup total (λ x y. refl) ys s)) (IsRising-union total one [] xs tt) (λ x.
      let u = In-union total one x [] xs in (
        λ h.
            let there = Contains-from_dedup (eq_by_cmp R) ys x (Contains-from_In x once h) in
            u.1 (inr (In-from_Contains x xs (Contains-permutation ys xs x (IsPermutation-sym xs ys p) there))),
        λ h. elim (u.0 h) [
          | inl k ↦ absurd k
          | inr k ↦
              let there = Contains-permutation xs ys x p (Contains-from_In x xs k) in
              let alike = λ (a b : K) (e : eq_by_cmp R a b ≡ true). one a b (alike_equal (R a b) e) in
              In-from_Contains x once (Contains-dedup (eq_by_cmp_equiv total) alike ys x there)
        ],
      ))

  pub in_order : (xs ys zs : List K) → IsPermutation xs ys → IsSorted R ys
      → IsFiltered (DiffersFromLast (eq_by_cmp R)) [] ys zs → zs ≡ union R [] xs
  in_order xs ys zs p s f = dedup_is (eq_by_cmp R) ys zs f ∙ sorted-union xs ys p s

  pub in_order-rises : (xs ys zs : List K) → IsPermutation xs ys → IsSorted R ys
      → IsFiltered (DiffersFromLast (eq_by_cmp R)) [] ys zs → IsRising R zs
  in_order-rises xs ys zs p s f = subst (IsRising R) (sym (in_order xs ys zs p s f)) (IsRising-union total one [] xs tt)
