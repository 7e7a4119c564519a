-- Lists that rise by a number of each element, their key: that of an element is below those of all later ones.
use Rattle.std.proofs.Common.{◌≡◌, ℕ, zero, suc, ◌+◌, ◌<◌, ◌≤◌, Bool, List, [], ◌∷◌, Option, Some, None, filter}
use Rattle.std.proofs.Common.{filter_map, get_or, length, map, nat_cmp, nat_lt, refl, sym, ◌∙◌, ap, inl, inr, arith}
use Rattle.std.specs.List.{cons_option, list_any, AllByRecursion}
use Rattle.std.specs.List.Sorted.{IsNonDecreasingBy}
use Rattle.std.proofs.lemmas.Cmp.{nat_cmp_total}
use Rattle.mxf_klv.specs.Rising.{In, IsRising, SameMembers, less_in}
use Rattle.mxf_klv.proofs.Lists.{all-filter, all-In, all_from_In, In-at, In-filter_map, In-map, list_any-In}
use Rattle.mxf_klv.proofs.Tests.{lt_from_less}

abbrev pub IsRisingBy : {K : Type 0} → (K → ℕ) → List K → Type 0
IsRisingBy key [] = Unit {0}
IsRisingBy key (x ∷ xs) = AllByRecursion (λ y. key x < key y) xs × IsRisingBy key xs

-- The first key is at a number or above it, and each later one above the one before.
abbrev pub IsRisingFrom : {K : Type 0} → (K → ℕ) → ℕ → List K → Type 0
IsRisingFrom key low [] = Unit {0}
IsRisingFrom key low (x ∷ xs) = (low ≤ key x) × IsRisingFrom key (key x + 1) xs

-- Numbers that rise do so by themselves.
pub by_itself : (xs : List ℕ) → IsRising nat_cmp xs → IsRisingBy (λ x. x) xs
by_itself [] r = tt
by_itself (x ∷ xs) r = grind (arith, all_from_In, less_in, lt_from_less, nat_cmp_total, by_itself xs r.1)

module _ {K : Type 0} (key : K → ℕ) where
  -- Two with one key are one.
  pub one_by_key : (xs : List K) (x y : K) → IsRisingBy key xs → In x xs → In y xs → key x ≡ key y → x ≡ y
  one_by_key [] x y r h k e = absurd h
  one_by_key (z ∷ xs) x y r (inl a) (inl b) e = a ∙ sym b
  one_by_key (z ∷ xs) x y r (inl a) (inr b) e = grind (arith, all-In)
  one_by_key (z ∷ xs) x y r (inr a) (inl b) e = grind (arith, all-In)
  one_by_key (z ∷ xs) x y r (inr a) (inr b) e = one_by_key xs x y r.1 a b e

  not_again : (x : K) (xs : List K) → AllByRecursion (λ y. key x < key y) xs → In x xs → ⊥
  not_again x xs a h = let l : key x < key x = all-In (λ y. key x < key y) xs x a h in omega (arith, l)

  first_same : (x y : K) (xs ys : List K) → IsRisingBy key (x ∷ xs) → IsRisingBy key (y ∷ ys)
      → SameMembers (x ∷ xs) (y ∷ ys) → x ≡ y
  first_same x y xs ys r s m = grind (arith, all-In (λ z. key y < key z) ys x s.0, all-In (λ z. key x < key z) xs y r.0)

  -- With the same members they are one list.
  pub same_by_members : (xs ys : List K) → IsRisingBy key xs → IsRisingBy key ys → SameMembers xs ys → xs ≡ ys
  same_by_members [] [] r s m = refl
  same_by_members [] (y ∷ ys) r s m = absurd ((m y).1 (inl refl))
  same_by_members (x ∷ xs) [] r s m = absurd ((m x).0 (inl refl))
  same_by_members (x ∷ xs) (y ∷ ys) r s m = grind (arith, first_same, not_again, same_by_members xs ys r.1 s.1)

  -- They still rise where some are left out, and where each is mapped to one of its key.
  pub rises-filter : (p : K → Bool) (xs : List K) → IsRisingBy key xs → IsRisingBy key (filter p xs)
  rises-filter p [] r = tt
  rises-filter p (x ∷ xs) r = grind (arith, all-filter, rises-filter p xs r.1)

  pub rises-map : {L : Type 0} (f : K → L) (other : L → ℕ) (xs : List K)
      → ((x : K) → In x xs → other (f x) ≡ key x) → IsRisingBy key xs → IsRisingBy other (map f xs)
  rises-map f other [] same r = tt
  rises-map f other (x ∷ xs) same r = (
    all_from_In (λ y. other (f x) < other y) (map f xs) (λ y h.
        let s = (In-map f xs y).0 h in
        let l : key x < key s.0 = all-In (λ z. key x < key z) xs s.0 r.0 s.1 in
        let a = same x (inl refl) in
        let b = same s.0 (inr s.1) in
        let c = ap other s.2 in omega (arith, l, a, b, c)),
    rises-map f other xs (λ y h. same y (inr h)) r.1,
  )

  pub rises-filter_map : {L : Type 0} (f : K → Option L) (other : L → ℕ) (xs : List K)
      → ((x : K) (y : L) → f x ≡ Some y → other y ≡ key x) → IsRisingBy key xs → IsRisingBy other (filter_map f xs)
  rises-filter_map f other [] same r = tt
  rises-filter_map f other (x ∷ xs) same r =
      let ih = rises-filter_map f other xs same r.1 in
      elim (f x) as (λ o. f x ≡ o → IsRisingBy other (cons_option o (filter_map f xs))) [
        | None ↦ λ e. ih
        | Some y ↦ λ e. (
          all_from_In (λ z. other y < other z) (filter_map f xs) (λ z h.
              let s = (In-filter_map f xs z).0 h in
              let l : key x < key s.0 = all-In (λ w. key x < key w) xs s.0 r.0 s.1 in
              let a = same x y e in
              let b = same s.0 z s.2 in omega (arith, l, a, b)),
          ih,
        )
      ] refl

  -- What places say.
  pub rises_at : (xs : List K) (i j : ℕ) (d : K) → IsRisingBy key xs → i < j → j < length xs
      → key (get_or xs i d) < key (get_or xs j d)
  rises_at [] i j d r l h = absurd (omega arith)
  rises_at (x ∷ xs) zero zero d r l h = absurd (omega arith)
  rises_at (x ∷ xs) zero (suc j) d r l h =
      all-In (λ y. key x < key y) xs (get_or xs j d) r.0 (In-at xs j d (omega arith))
  rises_at (x ∷ xs) (suc i) zero d r l h = absurd (omega arith)
  rises_at (x ∷ xs) (suc i) (suc j) d r l h = rises_at xs i j d r.1 (omega arith) (omega arith)

  pub never_falls : (xs : List K) → IsRisingBy key xs → IsNonDecreasingBy key xs
  never_falls xs r i j d l h = grind (arith, rises_at)

  -- None lies above the last.
  pub at_most_last : (xs : List K) (y : K) (k : ℕ) (d : K) → IsRisingBy key xs → k + 1 ≡ length xs → In y xs
      → key y ≤ key (get_or xs k d)
  at_most_last [] y k d r l h = absurd h
  at_most_last (x ∷ []) y zero d r l (inl e) = let f = ap key e in omega (arith, f)
  at_most_last (x ∷ []) y zero d r l (inr h) = absurd h
  at_most_last (x ∷ z ∷ xs) y zero d r l h = absurd (omega (arith, l))
  at_most_last (x ∷ xs) y (suc k) d r l (inl e) =
      grind (arith, all-In (λ z. key x < key z) xs (get_or xs k d) r.0 (In-at xs k d (omega (arith, l))))
  at_most_last (x ∷ xs) y (suc k) d r l (inr h) = at_most_last xs y k d r.1 (omega (arith, l)) h

  -- So the last tells whether one lies above another number.
  pub last_above : (low : ℕ) (xs : List K) (k : ℕ) (d : K) → IsRisingBy key xs → k + 1 ≡ length xs
      → nat_lt low (key (get_or xs k d)) ≡ list_any (λ x. nat_lt low (key x)) xs
  last_above low xs k d r l = grind (arith, In-at, at_most_last, list_any-In)

  -- ---- from a number on

  pub from_lower : (low high : ℕ) (xs : List K) → low ≤ high → IsRisingFrom key high xs → IsRisingFrom key low xs
  from_lower low high [] h a = tt
  from_lower low high (x ∷ xs) h a = let b : high ≤ key x = a.0 in (omega arith, a.1)

  pub at_or_above : (low : ℕ) (xs : List K) (x : K) → IsRisingFrom key low xs → In x xs → low ≤ key x
  at_or_above low [] x a h = absurd h
  at_or_above low (y ∷ ys) x a (inl e) = let b : low ≤ key y = a.0 in let f = ap key e in omega (arith, b, f)
  at_or_above low (y ∷ ys) x a (inr h) = omega (arith, at_or_above (key y + 1) ys x a.1 h)
