-- Lists that rise by a key of each element: searched, and with another element in its place.
use Rattle.mxf_views.proofs.Common.{◌≡◌, ◌≢◌, ℕ, zero, suc, ◌+◌, ◌<◌, ◌≤◌, ◌⊎◌, true, false, cond, List, [], ◌∷◌}
use Rattle.mxf_views.proofs.Common.{Option, Some, None, refl, sym, ap, ◌∙◌, inl, inr, arith, eqb-true, eq-eqb, ◌↔◌}
use Rattle.mxf_views.proofs.Common.{◌==◌, find, get_or, insert, length, list_any, nat_lt, AllWithin, ltb-true, lt-ltb}
use Rattle.mxf_views.proofs.Common.{ltb-false, false_from_ne_true, and_from, and_parts, In, IsNonDecreasingBy, In-at}
use Rattle.mxf_views.proofs.Common.{Contains-from_In, all-In, find-none, find-only, list_any-In, never_falls, cases_lt}
use Rattle.mxf_views.proofs.Common.{one_by_key, same_bool, lies_between, with_found, with_keyed, RiseBy}
use Rattle.mxf_klv.proofs.Lists.{all_from_In}
use Rattle.mxf_klv.proofs.RisingBy.{IsRisingBy, last_above}

pub rise_by : {A : Type 0} (key : A → ℕ) (xs : List A) → RiseBy key xs ↔ IsRisingBy key xs
rise_by key [] = (λ r. r, λ r. r)
rise_by key (x ∷ xs) = let rest = rise_by key xs in (λ r. (r.0, rest.0 r.1), λ r. (r.0, rest.1 r.1))

-- What stands at a place is the same whatever would stand where there is none.
pub same_at : {A : Type 0} (xs : List A) (i : ℕ) (d e : A) → i < length xs → get_or xs i d ≡ get_or xs i e
same_at [] i d e l = absurd (omega arith)
same_at (x ∷ xs) zero d e l = refl
same_at (x ∷ xs) (suc i) d e l = same_at xs i d e (omega arith)

module _ {A : Type 0} (key : A → ℕ) where
  pub keys_never_fall : (xs : List A) → RiseBy key xs → IsNonDecreasingBy key xs
  keys_never_fall xs r = never_falls key xs ((rise_by key xs).0 r)

  -- ---- with another

  pub In-with_keyed : (c x : A) (ds : List A) → In x (with_keyed key c ds) ↔ ((x ≡ c) ⊎ In x ds)
  In-with_keyed c x [] = (λ h. h, λ h. h)
  In-with_keyed c x (d ∷ ds) = grind (arith, nat_lt, cond, with_keyed, In-with_keyed c x ds)

  pub rises-with_keyed : (c : A) (ds : List A) → IsRisingBy key ds → ((d : A) → In d ds → key d ≢ key c)
      → IsRisingBy key (with_keyed key c ds)
  rises-with_keyed c [] r ne = (tt, tt)
  rises-with_keyed c (d ∷ ds) r ne = elim (nat_lt (key c) (key d)) as (λ b. nat_lt (key c) (key d) ≡ b
      → IsRisingBy key (cond b (c ∷ d ∷ ds) (d ∷ with_keyed key c ds))) [
        | true ↦ λ e. (
            let l : key c < key d = ltb-true (key c) (key d) e in (
              (
                l,
                all_from_In (λ x. key c < key x) ds (λ x h.
                    let a : key d < key x = all-In (λ y. key d < key y) ds x r.0 h in omega (arith, a, l)),
              ),
              r,
            ))
        | false ↦ λ e. (
            let l : key d ≤ key c = ltb-false (key c) (key d) e in
            let n : key d ≢ key c = ne d (inl refl) in (
              all_from_In (λ x. key d < key x) (with_keyed key c ds) (λ x h.
                  elim ((In-with_keyed c x ds).0 h) [
                    | inl q ↦ (let b = ap key q in omega (arith, l, n, b))
                    | inr k ↦ all-In (λ y. key d < key y) ds x r.0 k
                  ]),
              rises-with_keyed c ds r.1 (λ x h. ne x (inr h)),
            ))
      ] refl

  pub inserted : (c : A) (cs : List A) (i : ℕ) → i ≤ length cs → AllWithin (λ d. key d ≤ key c) cs 0 i
      → AllWithin (λ d. key c < key d) cs i (length cs) → insert cs i c ≡ with_keyed key c cs
  inserted c [] zero l f g = refl
  inserted c [] (suc i) l f g = absurd (omega arith)
  inserted c (d ∷ ds) zero l f g =
      let h : key c < key d = g 0 c (omega arith) (omega arith) in rw (lt-ltb (key c) (key d) h) refl
  inserted c (d ∷ ds) (suc i) l f g =
      let h : key d ≤ key c = f 0 c (omega arith) (omega arith) in
      let no : nat_lt (key c) (key d) ≡ false = false_from_ne_true (nat_lt (key c) (key d)) (λ t.
      let u : key c < key d = ltb-true (key c) (key d) t in omega arith) in
      rw no (ap (λ l. d ∷ l) (inserted c ds i (omega arith)
      (λ k e a b. f (suc k) e (omega arith) (omega arith)) (λ k e a b. g (suc k) e (omega arith) (omega arith))))

  pub length-with_keyed : (c : A) (cs : List A) → length (with_keyed key c cs) ≡ suc (length cs)
  length-with_keyed c [] = refl
  length-with_keyed c (d ∷ cs) = grind (arith, nat_lt, length, cond, with_keyed, length-with_keyed c cs)

  pub length-with_found : (o : Option A) (cs : List A) → length (with_found key o cs) ≤ length cs + 1
  length-with_found None cs = omega arith
  length-with_found (Some c) cs = let l = length-with_keyed c cs in omega (arith, l)

  -- ---- searched

  -- The first whose key isn't below another has it, or none has.
  pub found_at : (k : ℕ) (xs : List A) (i : ℕ) (d : A) → IsRisingBy key xs → i < length xs → key (get_or xs i d) ≡ k
      → Some (get_or xs i d) ≡ find (λ x. key x == k) xs
  found_at k xs i d r l at =
      sym (find-only (λ x. key x == k) xs (get_or xs i d) (In-at xs i d l) (eq-eqb (key (get_or xs i d)) k at)
      (λ x h t. one_by_key key xs x (get_or xs i d) r h (In-at xs i d l) (eqb-true (key x) k t ∙ sym at)))

  pub not_found : (k : ℕ) (xs : List A) (i : ℕ) → IsNonDecreasingBy key xs → AllWithin (λ x. key x < k) xs 0 i
      → ((d : A) → i < length xs → k ≤ key (get_or xs i d) → key (get_or xs i d) ≢ k)
      → AllWithin (λ x. k ≤ key x) xs i (length xs) → find (λ x. key x == k) xs ≡ None
  not_found k xs i r f other g = grind (arith, find-none, Contains-from_In, get_or, eqb-true, cases_lt)

  -- None lies between where all are at or below the lower one.
  pub none_between : (low high : ℕ) (xs : List A) (i : ℕ) → length xs ≤ i → AllWithin (λ x. key x ≤ low) xs 0 i
      → i ≤ length xs → list_any (λ x. lies_between low high (key x)) xs ≡ false
  none_between low high [] i l f b = refl
  none_between low high (x ∷ xs) zero l f b = absurd (omega arith)
  none_between low high (x ∷ xs) (suc i) l f b =
      let h : key x ≤ low = f 0 x (omega arith) (omega arith) in
      let no : nat_lt low (key x) ≡ false = false_from_ne_true (nat_lt low (key x))
      (λ t. let u : low < key x = ltb-true low (key x) t in omega arith) in
      rw no (none_between low high xs i (omega arith) (λ k e a b. f (suc k) e (omega arith) (omega arith))
      (omega arith))

  -- Else the first above it tells.
  pub first_between : (low high : ℕ) (xs : List A) (i : ℕ) (d : A) → IsRisingBy key xs → i < length xs
      → AllWithin (λ x. key x ≤ low) xs 0 i → AllWithin (λ x. low < key x) xs i (length xs)
      → nat_lt (key (get_or xs i d)) high ≡ list_any (λ x. lies_between low high (key x)) xs
  first_between low high [] i d r l f g = absurd (omega arith)
  first_between low high (x ∷ xs) zero d r l f g =
      let test = λ (y : A). lies_between low high (key y) in
      let h : low < key x = g 0 d (omega arith) (omega arith) in
      let yes : nat_lt low (key x) ≡ true = lt-ltb low (key x) h in
      same_bool (nat_lt (key x) high) (list_any test (x ∷ xs)) (λ t. (list_any-In test (x ∷ xs)).1
      (x, inl refl, and_from (nat_lt low (key x)) (nat_lt (key x) high) yes t)) (λ t.
      let s = (list_any-In test (x ∷ xs)).0 t in
      let p = and_parts (nat_lt low (key s.0)) (nat_lt (key s.0) high) s.2 in
      elim s.1 [
        | inl e ↦ ap (λ y. nat_lt (key y) high) (sym e) ∙ p.1
        | inr k ↦ (
            let a : key x < key s.0 = all-In (λ y. key x < key y) xs s.0 r.0 k in
            let b : key s.0 < high = ltb-true (key s.0) high p.1 in lt-ltb (key x) high (omega (arith, a, b)))
      ])
  first_between low high (x ∷ xs) (suc i) d r l f g =
      let h : key x ≤ low = f 0 d (omega arith) (omega arith) in
      let no : nat_lt low (key x) ≡ false = false_from_ne_true (nat_lt low (key x))
      (λ t. let u : low < key x = ltb-true low (key x) t in omega arith) in
      rw no (first_between low high xs i d r.1 (omega arith)
      (λ k e a b. f (suc k) e (omega arith) (omega arith)) (λ k e a b. g (suc k) e (omega arith) (omega arith)))

  pub last_tells : (low : ℕ) (xs : List A) (k : ℕ) (d : A) → RiseBy key xs → k + 1 ≡ length xs
      → nat_lt low (key (get_or xs k d)) ≡ list_any (λ x. nat_lt low (key x)) xs
  last_tells low xs k d r = last_above key low xs k d ((rise_by key xs).0 r)
