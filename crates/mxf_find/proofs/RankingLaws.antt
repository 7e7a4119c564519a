-- The first of a list in its order, of which only the first were kept.
use Rattle.mxf_klv.proofs.Common.{◌≡◌, ◌∙◌, ◌++◌, ℕ, zero, suc, cond, List, [], ◌∷◌, take, ap, append-nil, append_assoc}
use Rattle.mxf_klv.proofs.Common.{inl, inr, refl, sym, IsTotalOrder, IsAntisymmetric, is_eq, is_lt, In-union}
use Rattle.mxf_klv.proofs.Common.{In-with_one, IsRising, IsRising-union, IsRising-with_one, SameMembers}
use Rattle.mxf_klv.proofs.Common.{same_from_members, union, with_one, AllByRecursion}
use Rattle.std.proofs.Common.{Ordering, Less, Equal, Greater}
use Rattle.mxf_klv.proofs.Lists.{In-append}
use Rattle.mxf_find.specs.RankOrder.{rank_cmp-IsAntisymmetric, rank_total}
use Rattle.mxf_find.specs.Rankings.{ranked, with_all}
use Rattle.mxf_find.specs.declared.ranking.Ranked.{Ranked}

-- What is put into the first of a list stands in the first of it as if it were put into all.
take-with_one : {K : Type 0} (R : K → K → Ordering) (n : ℕ) (x : K) (l : List K)
    → take n (with_one R x (take n l)) ≡ take n (with_one R x l)
take-with_one R zero x l = refl
take-with_one R (suc n) x [] = refl
take-with_one R (suc n) x (y ∷ l) = elim (R x y) as (λ o.
    take (suc n) (cond (is_lt o) (x ∷ y ∷ take n l) (cond (is_eq o) (y ∷ take n l) (y ∷ with_one R x (take n l))))
    ≡ take (suc n) (cond (is_lt o) (x ∷ y ∷ l) (cond (is_eq o) (y ∷ l) (y ∷ with_one R x l)))) [
      | Less ↦ ap (λ t. x ∷ t) (take_again n y l)
      | Equal ↦ ap (λ t. y ∷ t) (take_same n l)
      | Greater ↦ ap (λ t. y ∷ t) (take-with_one R n x l)
    ]
  where
    take_same : {K : Type 0} (n : ℕ) (l : List K) → take n (take n l) ≡ take n l
    take_same zero l = refl
    take_same (suc n) [] = refl
    take_same (suc n) (y ∷ l) = ap (λ t. y ∷ t) (take_same n l)

    take_again : {K : Type 0} (n : ℕ) (y : K) (l : List K) → take n (y ∷ take n l) ≡ take n (y ∷ l)
    take_again zero y l = refl
    take_again (suc n) y [] = refl
    take_again (suc n) y (z ∷ l) = ap (λ t. y ∷ t) (take_again n z l)

module _ {K : Type 0} {R : K → K → Ordering} (o : IsTotalOrder R) (same : IsAntisymmetric R) where
  rising_union : (xs : List K) → IsRising R (union R [] xs)
  rising_union xs = IsRising-union o same [] xs tt

  -- The last is put in its place.
  union-last : (xs : List K) (x : K) → union R [] (xs ++ x ∷ []) ≡ with_one R x (union R [] xs)
  union-last xs x = same_from_members o same (union R [] (xs ++ x ∷ [])) (with_one R x (union R [] xs))
      (rising_union (xs ++ x ∷ [])) (IsRising-with_one o same x (union R [] xs) (rising_union xs)) (λ z.
      let all = In-union o same z [] (xs ++ x ∷ []) in
      let part = In-append z xs (x ∷ []) in
      let some = In-union o same z [] xs in
      let one = In-with_one o same z x (union R [] xs) in (
        λ i. one.1 (elim (all.0 i) [
          | inl n ↦ absurd n
          | inr j ↦ elim (part.0 j) [
            | inl k ↦ inr (some.1 (inr k))
            | inr k ↦ elim k [ inl e ↦ inl e | inr n ↦ absurd n ]
          ]
        ]),
        λ i. all.1 (inr (part.1 (elim (one.0 i) [
          | inl e ↦ inr (inl e)
          | inr j ↦ elim (some.0 j) [ inl n ↦ absurd n | inr k ↦ inl k ]
        ]))),
      ))

  -- A list that rises is in its order.
  union-rising : (xs : List K) → IsRising R xs → union R [] xs ≡ xs
  union-rising xs r = same_from_members o same (union R [] xs) xs (rising_union xs) r
      (λ z. let u = In-union o same z [] xs in (λ i. elim (u.0 i) [ inl n ↦ absurd n | inr j ↦ j ], λ i. u.1 (inr i)))

  union-members : (xs ys : List K) → SameMembers xs ys → union R [] xs ≡ union R [] ys
  union-members xs ys m = same_from_members o same (union R [] xs) (union R [] ys) (rising_union xs) (rising_union ys)
      (λ z. let a = In-union o same z [] xs in let b = In-union o same z [] ys in (
        λ i. elim (a.0 i) [ inl n ↦ absurd n | inr j ↦ b.1 (inr ((m z).0 j)) ],
        λ i. elim (b.0 i) [ inl n ↦ absurd n | inr j ↦ a.1 (inr ((m z).1 j)) ],
      ))

  all_taken : (n : ℕ) (x : K) (xs : List K) → AllByRecursion (λ y. R x y ≡ Less) xs
      → AllByRecursion (λ y. R x y ≡ Less) (take n xs)
  all_taken zero x xs a = tt
  all_taken (suc n) x [] a = tt
  all_taken (suc n) x (y ∷ xs) a = (a.0, all_taken n x xs a.1)

  rising_taken : (n : ℕ) (xs : List K) → IsRising R xs → IsRising R (take n xs)
  rising_taken zero xs r = tt
  rising_taken (suc n) [] r = tt
  rising_taken (suc n) (x ∷ xs) r = (all_taken n x xs r.0, rising_taken n xs r.1)

  -- One more, of which the first are kept.
  kept_more : (n : ℕ) (xs : List K) (x : K)
      → take n (union R [] (take n (union R [] xs) ++ x ∷ [])) ≡ take n (union R [] (xs ++ x ∷ []))
  kept_more n xs x =
      let kept = take n (union R [] xs) in
      ap (take n) (union-last kept x
      ∙ ap (with_one R x) (union-rising kept (rising_taken n (union R [] xs) (rising_union xs))))
      ∙ take-with_one R n x (union R [] xs) ∙ ap (take n) (sym (union-last xs x))

all_from : (before all : List Ranked) → with_all all (ranked before) ≡ ranked (before ++ all)
all_from before [] = ap ranked (sym (append-nil before))
all_from before (r ∷ all) = ap (with_all all) (kept_more rank_total rank_cmp-IsAntisymmetric 16 before r)
    ∙ all_from (before ++ r ∷ []) all ∙ ap ranked (append_assoc before (r ∷ []) all)

pub all_ranked : (all : List Ranked) → with_all all [] ≡ ranked all
all_ranked all = all_from [] all

pub any_order : (a b : List Ranked) → SameMembers a b → with_all a [] ≡ with_all b []
any_order a b m =
    all_ranked a ∙ ap (take 16) (union-members rank_total rank_cmp-IsAntisymmetric a b m) ∙ sym (all_ranked b)
