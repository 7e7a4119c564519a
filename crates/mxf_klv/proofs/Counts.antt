-- How many elements of a list pass a test, and how many numbers of a range.
use Rattle.mxf_klv.proofs.Common.{◌≡◌, ℕ, zero, suc, ◌+◌, ◌<◌, ◌≤◌, Bool, true, false, cond, List, [], ◌∷◌, ◌∙◌, ◌&&◌}
use Rattle.mxf_klv.proofs.Common.{◌==◌, count_by, length, map, nat_le, nat_lt, not, refl, sym, ap, inl, inr, arith}
use Rattle.mxf_klv.proofs.Common.{cases_lt, nat_tests, le-leb, lt-leb, lt-ltb, sum_by-cons, AllWithin, In}
use Rattle.std.proofs.lemmas.Bool.{le-ltb}
use Rattle.std.specs.List.{range_with_len}

abbrev pub tally : Bool → ℕ
tally b = cond b 1 0

pub count_by-cons : {K : Type 0} (p : K → Bool) (x : K) (xs : List K)
    → count_by p (x ∷ xs) ≡ tally (p x) + count_by p xs
count_by-cons p x xs = sum_by-cons (λ y. cond (p y) 1 0) x xs

-- where none passes, none is counted, and the other way around
pub count-none : {K : Type 0} (p : K → Bool) (xs : List K) → ((x : K) → In x xs → p x ≡ true → ⊥) → count_by p xs ≡ 0
count-none p [] f = refl
count-none p (x ∷ xs) f = grind (arith, count-none p xs (λ y h. f y (inr h)))

pub none-count : {K : Type 0} (p : K → Bool) (xs : List K) (y : K) → count_by p xs ≡ 0 → In y xs → p y ≡ true → ⊥
none-count p [] y e h t = h
none-count p (x ∷ xs) y e h t = grind (arith, count_by-cons, none-count p xs y)

-- where one is counted, exactly one passes
pub count-one : {K : Type 0} (p : K → Bool) (xs : List K) → count_by p xs ≡ 1
    → (x : K) × In x xs × (p x ≡ true) × ((y : K) → In y xs → p y ≡ true → y ≡ x)
count-one p [] e = absurd cc
count-one {K} p (x ∷ xs) e = grind (arith, count_by-cons, none-count, count-one p xs)

-- where exactly the first so many pass, so many are counted
pub count-front : {K : Type 0} (p : K → Bool) (xs : List K) (i : ℕ) → i ≤ length xs
    → AllWithin (λ x. p x ≡ true) xs 0 i → AllWithin (λ x. p x ≡ false) xs i (length xs) → count_by p xs ≡ i
count-front p [] i l f g = omega arith
count-front p (x ∷ xs) zero l f g =
    let c = count_by-cons p x xs in
    let first : p x ≡ false = g 0 x (omega arith) (omega arith) in
    let z : tally (p x) ≡ 0 = ap tally first in
    let ih = count-front p xs 0 (omega arith) (λ k d a h. absurd (omega arith))
    (λ k d a h. g (suc k) d (omega arith) (omega arith)) in
    omega (arith, c, z, ih)
count-front p (x ∷ xs) (suc i) l f g =
    let c = count_by-cons p x xs in
    let first : p x ≡ true = f 0 x (omega arith) (omega arith) in
    let z : tally (p x) ≡ 1 = ap tally first in
    let ih = count-front p xs i (omega arith) (λ k d a h. f (suc k) d (omega arith) (omega arith))
    (λ k d a h. g (suc k) d (omega arith) (omega arith)) in
    omega (arith, c, z, ih)

both_tallies : (a b : Bool) → tally a ≡ tally (a && b) + tally (a && not b)
both_tallies a b = grind arith

-- those that pass one test pass another or don't
pub count-both : {K : Type 0} (p q : K → Bool) (xs : List K)
    → count_by p xs ≡ count_by (λ x. p x && q x) xs + count_by (λ x. p x && not (q x)) xs
count-both p q [] = refl
count-both p q (x ∷ xs) =
    let l = count_by-cons p x xs in
    let a = count_by-cons (λ y. p y && q y) x xs in
    let b = count_by-cons (λ y. p y && not (q y)) x xs in
    let ih = count-both p q xs in
    let one = both_tallies (p x) (q x) in
    omega (arith, l, a, b, ih, one)

-- where some are counted, one passes
pub count-some : {K : Type 0} (p : K → Bool) (xs : List K) → 0 < count_by p xs → (x : K) × In x xs × (p x ≡ true)
count-some p [] h = absurd (omega arith)
count-some {K} p (x ∷ xs) h =
    let c = count_by-cons p x xs in
    elim (p x) as (λ b. p x ≡ b → (y : K) × In y (x ∷ xs) × (p y ≡ true)) [
      | true ↦ λ e. (x, inl refl, e)
      | false ↦ λ e.
          let z : tally (p x) ≡ 0 = ap tally e in
          let s = count-some p xs (omega (arith, c, z)) in
          (s.0, inr s.1, s.2)
    ] refl

-- and the other way around
pub some-count : {K : Type 0} (p : K → Bool) (xs : List K) (x : K) → In x xs → p x ≡ true → 0 < count_by p xs
some-count p xs x i t = elim (cases_lt 0 (count_by p xs)) [
  | inl some ↦ some
  | inr none ↦ absurd (none-count p xs x (omega (arith, none)) i t)
]

-- tests that answer alike count alike
pub count-alike : {K : Type 0} (p q : K → Bool) (xs : List K) → ((x : K) → p x ≡ q x) → count_by p xs ≡ count_by q xs
count-alike p q xs f = λ i. count_by (λ x. f x i) xs

-- what a function gives is counted by the test of it
pub count_mapped : {A B : Type 0} (t : B → Bool) (f : A → B) (xs : List A)
    → count_by t (map f xs) ≡ count_by (λ x. t (f x)) xs
count_mapped t f [] = refl
count_mapped t f (x ∷ xs) = count_by-cons t (f x) (map f xs) ∙ ap (λ n. tally (t (f x)) + n) (count_mapped t f xs)
    ∙ sym (count_by-cons (λ x. t (f x)) x xs)

one_number : (k number : ℕ) → tally (nat_le k number) ≡ tally (nat_lt k number) + tally (k == number)
one_number k number = grind (arith, nat_tests)

-- as many are equal to a number as are up to it, but for those below
equal-count : {K : Type 0} (key : K → ℕ) (xs : List K) (number : ℕ) → count_by (λ x. nat_le (key x) number) xs
    ≡ count_by (λ x. nat_lt (key x) number) xs + count_by (λ x. key x == number) xs
equal-count key [] number = refl
equal-count key (x ∷ xs) number =
    let a = count_by-cons (λ x. nat_le (key x) number) x xs in
    let b = count_by-cons (λ x. nat_lt (key x) number) x xs in
    let d = count_by-cons (λ x. key x == number) x xs in
    let one = one_number (key x) number in
    let ih = equal-count key xs number in
    omega (arith, a, b, d, one, ih)

-- those equal to a number stand from where it begins up to where it ends
pub count-between : {K : Type 0} (key : K → ℕ) (xs : List K) (number below up_to : ℕ) → below ≤ length xs
    → AllWithin (λ x. key x < number) xs 0 below → AllWithin (λ x. number ≤ key x) xs below (length xs)
    → up_to ≤ length xs → AllWithin (λ x. key x ≤ number) xs 0 up_to
    → AllWithin (λ x. number < key x) xs up_to (length xs) → up_to ≡ below + count_by (λ x. key x == number) xs
count-between key xs number below up_to b less from u most above =
    let lower = count-front (λ x. nat_lt (key x) number) xs below b (λ k d l h. lt-ltb _ _ (less k d l h))
    (λ k d l h. le-ltb _ _ (from k d l h)) in
    let upper = count-front (λ x. nat_le (key x) number) xs up_to u (λ k d l h. le-leb _ _ (most k d l h))
    (λ k d l h. lt-leb _ _ (above k d l h)) in
    let all = equal-count key xs number in
    omega (arith, lower, upper, all)

-- ---- numbers of a range

pub In-range : (a n x : ℕ) → a ≤ x → x < a + n → In x (range_with_len a n)
In-range a zero x l r = absurd (omega arith)
In-range a (suc n) x l r =
    elim (cases_lt a x) [
      | inl m ↦ inr (In-range (a + 1) n x (omega (arith, m)) (omega arith))
      | inr m ↦ inl (omega (arith, m, l))
    ]

pub range-split : (p : ℕ → Bool) (a m k : ℕ) → count_by p (range_with_len a (m + k)) ≡ count_by p
    (range_with_len a m) + count_by p (range_with_len (a + m) k)
range-split p a zero k = grind arith
range-split p a (suc m) k =
    let ih : count_by p (range_with_len (a + 1) (m + k)) ≡ count_by p (range_with_len (a + 1) m) + count_by p
    (range_with_len (a + 1 + m) k) = range-split p (a + 1) m k in
    let e : a + 1 + m ≡ a + suc m = omega arith in
    let f : count_by p (range_with_len (a + 1 + m) k) ≡ count_by p (range_with_len (a + suc m) k) = ap
    (λ (b : ℕ). count_by p (range_with_len b k)) e in
    let z : suc m + k ≡ suc (m + k) = omega arith in
    let g : count_by p (range_with_len a (suc m + k)) ≡ count_by p (range_with_len a (suc (m + k))) = ap
    (λ (j : ℕ). count_by p (range_with_len a j)) z in
    let l : count_by p (range_with_len a (suc (m + k))) ≡ tally (p a) + count_by p
    (range_with_len (a + 1) (m + k)) = count_by-cons p a (range_with_len (a + 1) (m + k)) in
    let r : count_by p (range_with_len a (suc m)) ≡ tally (p a) + count_by p
    (range_with_len (a + 1) m) = count_by-cons p a (range_with_len (a + 1) m) in
    omega (arith, ih, f, g, l, r)

pub range-none : (p : ℕ → Bool) (a m : ℕ) → ((o : ℕ) → a ≤ o → o < a + m → p o ≡ false)
    → count_by p (range_with_len a m) ≡ 0
range-none p a zero h = refl
range-none p a (suc m) h = grind (arith, range-none p (a + 1) m (λ o l r. h o (omega arith) (omega arith)))

pub range-all : (p : ℕ → Bool) (a m : ℕ) → ((o : ℕ) → a ≤ o → o < a + m → p o ≡ true)
    → count_by p (range_with_len a m) ≡ m
range-all p a zero h = refl
range-all p a (suc m) h = grind (arith, count_by-cons, range-all p (a + 1) m (λ o l r. h o (omega arith) (omega arith)))

pub range-same : (p q : ℕ → Bool) (a m : ℕ) → ((o : ℕ) → a ≤ o → o < a + m → p o ≡ q o)
    → count_by p (range_with_len a m) ≡ count_by q (range_with_len a m)
range-same p q a zero h = refl
range-same p q a (suc m) h =
    grind (arith, count_by-cons, range-same p q (a + 1) m (λ o l r. h o (omega arith) (omega arith)))

pub range-le : (p : ℕ → Bool) (a m : ℕ) → count_by p (range_with_len a m) ≤ m
range-le p a zero = omega arith
range-le p a (suc m) = grind (arith, count_by-cons, range-le p (a + 1) m)

-- where all are counted, each passes
pub range-full : (p : ℕ → Bool) (a m : ℕ) → count_by p (range_with_len a m) ≡ m → (o : ℕ) → a ≤ o → o < a + m
    → p o ≡ true
range-full p a zero e o l r = absurd (omega arith)
range-full p a (suc m) e o l r = grind (arith, count_by-cons, range-le, range-full p (a + 1) m)
