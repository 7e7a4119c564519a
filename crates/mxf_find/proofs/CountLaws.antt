-- How often numbers stand in a list.
use Rattle.mxf_klv.proofs.Common.{◌≡◌, ◌∙◌, ◌+◌, ◌≤◌, ◌<◌, ◌==◌, ℕ, zero, suc, cond, List, [], ◌∷◌, ◌++◌, append_assoc}
use Rattle.mxf_klv.proofs.Common.{map, refl, ap, subst, sym, arith, get_or, length, eqb-true, eq-eqb, inl, inr}
use Rattle.mxf_klv.proofs.Common.{IsNonDecreasing, IsPermutation, cases_Bool, cases_lt, sum_by-IsPermutation, In}
use Rattle.std.proofs.Common.{flat_map}
use Rattle.mxf_klv.proofs.Counts.{count_by-cons, tally}
use Rattle.mxf_klv.proofs.Lists.{In-at}
use Rattle.mxf_find.specs.Votes.{IsMostVoted, count_of}

-- A number that stands nowhere is counted 0, and one that stands somewhere more.
pub counted : (xs : List ℕ) (number : ℕ) → In number xs → 0 < count_of number xs
counted (x ∷ xs) number (inl e) =
    let a = count_by-cons (λ k. k == number) x xs in
    let one : tally (x == number) ≡ 1 = ap tally (eq-eqb x number (sym e)) in
    omega (arith, a, one)
counted (x ∷ xs) number (inr i) =
    let a = count_by-cons (λ k. k == number) x xs in
    let ih = counted xs number i in
    omega (arith, a, ih)
counted [] number i = absurd i

-- Counts are the same in another order.
pub count-permuted : (xs ys : List ℕ) (number : ℕ) → IsPermutation xs ys → count_of number ys ≡ count_of number xs
count-permuted xs ys number p = sum_by-IsPermutation (λ k. cond (k == number) 1 0) xs ys p

pub most-permuted : (xs ys : List ℕ) (vote : ℕ) → IsPermutation xs ys → IsMostVoted ys vote → IsMostVoted xs vote
most-permuted xs ys vote p m =
    let here = count-permuted xs ys vote p in
    record {
      some = let s = m.some in omega (arith, here, s);
      most = λ w. let there = count-permuted xs ys w p in let l = m.most w in omega (arith, here, there, l);
      least = λ w e. m.least w (count-permuted xs ys w p ∙ e ∙ sym here);
    }

-- What stands somewhere in a list.
pub placed : (xs : List ℕ) (o : ℕ) → 0 < count_of o xs → (k : ℕ) × (k < length xs) × (get_or xs k 0 ≡ o)
placed [] o l = absurd (omega arith)
placed (x ∷ xs) o l = elim (cases_Bool (x == o)) [
  | inl t ↦ (zero, omega arith, eqb-true x o t)
  | inr f ↦
      let a = count_by-cons (λ k. k == o) x xs in
      let z : tally (x == o) ≡ 0 = ap tally f in
      let s = placed xs o (omega (arith, a, z, l)) in
      (suc s.0, omega (arith, s.1), s.2)
]

-- One of a list stands there most often, of several that do the least, if so it is for each place.
pub most_of : (xs : List ℕ) (most count : ℕ) → 0 < count → count ≡ count_of most xs
    → ((k : ℕ) → k < length xs → count_of (get_or xs k 0) xs ≤ count)
    → ((k : ℕ) → k < length xs → count_of (get_or xs k 0) xs ≡ count → most ≤ get_or xs k 0) → IsMostVoted xs most
most_of xs most count some is each least = record {
  some = omega (arith, some, is);
  most = λ o. elim (cases_lt 0 (count_of o xs)) [
    | inl l ↦
        let s = placed xs o l in
        let e = each s.0 s.1 in
        let f : count_of (get_or xs s.0 0) xs ≡ count_of o xs = ap (λ (w : ℕ). count_of w xs) s.2 in
        omega (arith, e, f, is)
    | inr n ↦ omega (arith, n)
  ];
  least = λ o e.
      let s = placed xs o (omega (arith, e, some, is)) in
      let f : count_of (get_or xs s.0 0) xs ≡ count_of o xs = ap (λ (w : ℕ). count_of w xs) s.2 in
      let l = least s.0 s.1 (f ∙ e ∙ sym is) in
      omega (arith, l, s.2);
}

pub flat_map-map : {A B C : Type 0} (g : B → List C) (h : A → B) (xs : List A)
    → flat_map g (map h xs) ≡ flat_map (λ x. g (h x)) xs
flat_map-map g h [] = refl
flat_map-map g h (x ∷ xs) = ap (λ l. g (h x) ++ l) (flat_map-map g h xs)

-- One more is mapped.
pub next_mapped : {A B : Type 0} (f : A → B) (done new : List B) (all left rest : List A) (x : A) (y : B)
    → left ≡ x ∷ rest → y ≡ f x → new ≡ done ++ y ∷ [] → done ++ map f left ≡ map f all → new ++ map f rest ≡ map f all
next_mapped f done new all left rest x y e is n inv =
    ap (λ l. l ++ map f rest) n ∙ append_assoc done (y ∷ []) (map f rest) ∙ ap (λ z. done ++ z ∷ map f rest) is
    ∙ sym (ap (λ l. done ++ map f l) e) ∙ inv

-- Of the first numbers of a list none stands in it more often than one, and none that stands there as often is less; no
-- other is less than that one.
pub record IsMostSoFar (xs : List ℕ) (i most count : ℕ) : Type 0 where
  pub some : 0 < count
  pub counted : count ≡ count_of most xs
  pub each : (k : ℕ) → k < i → count_of (get_or xs k 0) xs ≤ count
  pub least : (k : ℕ) → k < i → count_of (get_or xs k 0) xs ≡ count → most ≤ get_or xs k 0
  pub below : (k : ℕ) → i ≤ k → k < length xs → most ≤ get_or xs k 0

at_next : (P : ℕ → Type 0) (i k : ℕ) → k < i + 1 → (k < i → P k) → P i → P k
at_next P i k l before here = grind (arith, cases_lt)

module _ (xs : List ℕ) (i most count : ℕ) (so : IsMostSoFar xs i most count) where
  pub next_most : i < length xs → IsNonDecreasing xs → count < count_of (get_or xs i 0) xs
      → IsMostSoFar xs (i + 1) (get_or xs i 0) (count_of (get_or xs i 0) xs)
  next_most within rises more = record {
    some = omega (arith, more);
    counted = refl;
    each = λ k l. at_next (λ j. count_of (get_or xs j 0) xs ≤ count_of (get_or xs i 0) xs) i k l
        (λ h. let a = so.each k h in omega (arith, a, more)) (omega arith);
    least = λ k l e. at_next
        (λ j. count_of (get_or xs j 0) xs ≡ count_of (get_or xs i 0) xs → get_or xs i 0 ≤ get_or xs j 0) i k l
        (λ h f. absurd (let a = so.each k h in omega (arith, a, more, f))) (λ f. omega arith) e;
    below = λ k l h. rises i k 0 (omega arith) h;
  }

  pub next_same : i < length xs → count_of (get_or xs i 0) xs ≤ count → IsMostSoFar xs (i + 1) most count
  next_same within less = record {
    some = so.some;
    counted = so.counted;
    each = λ k l. at_next (λ j. count_of (get_or xs j 0) xs ≤ count) i k l (λ h. so.each k h) less;
    least = λ k l e. at_next (λ j. count_of (get_or xs j 0) xs ≡ count → most ≤ get_or xs j 0) i k l
        (λ h f. so.least k h f) (λ f. so.below i (omega arith) within) e;
    below = λ k l h. so.below k (omega arith) h;
  }

  pub most_at_end : length xs ≤ i → IsMostVoted xs most
  most_at_end end = most_of xs most count so.some so.counted (λ k l. so.each k (omega arith))
      (λ k l e. so.least k (omega arith) e)

pub first_most : (xs : List ℕ) (most : ℕ) → 0 < length xs → IsNonDecreasing xs → most ≡ get_or xs 0 0
    → IsMostSoFar xs 0 most (count_of most xs)
first_most xs most some rises is = record {
  some = counted xs most (subst (λ (m : ℕ). In m xs) (sym is) (In-at xs 0 0 some));
  counted = refl;
  each = λ k l. absurd (omega arith);
  least = λ k l e. absurd (omega arith);
  below = λ k l h. let r = rises 0 k 0 (omega arith) h in omega (arith, r, is);
}
