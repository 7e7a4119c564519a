-- Intervals that may have a number.
use Rattle.mxf_views.proofs.Common.{◌≡◌, ◌∙◌, ◌<◌, ◌≤◌, ◌++◌, ℕ, zero, suc, List, [], ◌∷◌, Option, None, refl, sym}
use Rattle.mxf_views.proofs.Common.{ap, append-nil, append_assoc, arith, drop, filter_map, get_or, length, max, min}
use Rattle.mxf_views.proofs.Common.{subst, take, AllByRecursion, AllWithin, cons_option, IsNonDecreasing}
use Rattle.mxf_views.proofs.Common.{IsNonDecreasingBy, nat_cmp, nat_tests, length-take, take-append-drop, take-take}
use Rattle.mxf_views.proofs.Common.{filter_map-append}
use Rattle.std.specs.Ordering.{ord_max}
use Rattle.mxf_units.specs.Intervals.{AreByFirst, IsAround, greatest_ends}

-- ---- places of a list

all_take : {K : Type 0} (P : K → Type 0) (xs : List K) (k : ℕ)
    → ((i : ℕ) (d : K) → i < k → i < length xs → P (get_or xs i d)) → AllByRecursion P (take k xs)
all_take P xs zero f = tt
all_take P [] (suc k) f = tt
all_take P (x ∷ xs) (suc k) f = (
  f 0 x (omega arith) (omega arith),
  all_take P xs k (λ i d l h. f (suc i) d (omega (arith, l)) (omega (arith, h))),
)

all_drop : {K : Type 0} (P : K → Type 0) (xs : List K) (k : ℕ)
    → ((i : ℕ) (d : K) → k ≤ i → i < length xs → P (get_or xs i d)) → AllByRecursion P (drop k xs)
all_drop P [] zero f = tt
all_drop P [] (suc k) f = tt
all_drop P (x ∷ xs) zero f = (
  f 0 x (omega arith) (omega arith),
  all_drop P xs 0 (λ i d l h. f (suc i) d (omega arith) (omega (arith, h))),
)
all_drop P (x ∷ xs) (suc k) f = all_drop P xs k (λ i d l h. f (suc i) d (omega (arith, l)) (omega (arith, h)))

rising_drop : {K : Type 0} (f : K → ℕ) (xs : List K) (k : ℕ) → IsNonDecreasingBy f xs → IsNonDecreasingBy f (drop k xs)
rising_drop f [] zero r = r
rising_drop f [] (suc k) r = r
rising_drop f (x ∷ xs) zero r = r
rising_drop f (x ∷ xs) (suc k) r =
    rising_drop f xs k (λ i j d l h. r (suc i) (suc j) d (omega (arith, l)) (omega (arith, h)))

-- ---- the greatest ends

-- The greater of two numbers, by their order.
pub greater : (a b : ℕ) → ord_max nat_cmp a b ≡ max a b
greater a b = grind (arith, nat_tests)

module _ {K : Type 0} (end : K → ℕ) where
  pub length-ends : (top : ℕ) (xs : List K) → length (greatest_ends end top xs) ≡ length xs
  length-ends top [] = refl
  length-ends top (x ∷ xs) = ap (λ n. suc n) (length-ends (max top (end x)) xs)

  from_top : (top : ℕ) (xs : List K) (i d : ℕ) → i < length xs → top ≤ get_or (greatest_ends end top xs) i d
  from_top top [] i d l = absurd (omega arith)
  from_top top (x ∷ xs) zero d l = omega arith
  from_top top (x ∷ xs) (suc i) d l =
      let ih = from_top (max top (end x)) xs i d (omega (arith, l)) in omega (arith, ih)

  pub own_end : (top : ℕ) (xs : List K) (i d : ℕ) (e : K) → i < length xs
      → end (get_or xs i e) ≤ get_or (greatest_ends end top xs) i d
  own_end top [] i d e l = absurd (omega arith)
  own_end top (x ∷ xs) zero d e l = omega arith
  own_end top (x ∷ xs) (suc i) d e l = own_end (max top (end x)) xs i d e (omega (arith, l))

  pub ends-rise : (top : ℕ) (xs : List K) → IsNonDecreasing (greatest_ends end top xs)
  ends-rise top [] i j d l h = absurd (omega arith)
  ends-rise top (x ∷ xs) zero zero d l h = omega arith
  ends-rise top (x ∷ xs) zero (suc j) d l h =
      from_top (max top (end x)) xs j d (let m = length-ends (max top (end x)) xs in omega (arith, m, h))
  ends-rise top (x ∷ xs) (suc i) zero d l h = absurd (omega arith)
  ends-rise top (x ∷ xs) (suc i) (suc j) d l h =
      ends-rise (max top (end x)) xs i j d (omega (arith, l)) (omega (arith, h))

-- ---- around a number

module _ {K : Type 0} (first end : K → ℕ) where
  pub around : (xs : List K) (ends : List ℕ) (at begun ended : ℕ) (front above near : List K)
      → AreByFirst first end xs ends
      → begun ≤ length xs → ended ≤ length ends → AllWithin (λ x. at < first x) xs begun (length xs)
      → AllWithin (λ x. x < at) ends 0 ended → front ≡ take begun xs → above ≡ drop begun xs
      → near ≡ drop (min ended (length front)) front → IsAround first end at xs near above
  around xs ends at begun ended front above near is l m behind below is_front is_above is_near = record {
    ended = take k front;
    parts = sym (take-append-drop begun xs)
        ∙ ap (λ (ys : List K). ys ++ drop begun xs) (sym is_front ∙ sym (take-append-drop k front))
        ∙ append_assoc (take k front) (drop k front) (drop begun xs)
        ∙ (λ i. take k front ++ (sym is_near i ++ sym is_above i));
    below = subst_front (all_take (λ x. end x < at) xs k (λ i d h j.
        let reach = own_end end 0 xs i 0 d j in
        let end_below : get_or ends i 0 < at = below i 0 (omega arith) (omega (arith, h)) in
        let same : get_or ends i 0 ≡ get_or (greatest_ends end 0 xs) i 0 =
        ap (λ (es : List ℕ). get_or es i 0) is.ends_are in
        omega (arith, reach, end_below, same)));
    behind = subst_above (all_drop (λ x. at < first x) xs begun behind);
    rising = subst_rising (rising_drop first xs begun is.rising);
  }
    where
      k : ℕ
      k = min ended (length front)

      fits : k ≤ begun
      fits = let e : length front ≡ length (take begun xs) = ap length is_front in
          let t = length-take begun xs in omega (arith, e, t)

      subst_front : AllByRecursion (λ x. end x < at) (take k xs) → AllByRecursion (λ x. end x < at) (take k front)
      subst_front a = subst (λ (ys : List K). AllByRecursion (λ x. end x < at) ys)
          (sym (take-take k begun xs fits) ∙ ap (take k) (sym is_front)) a

      subst_above : AllByRecursion (λ x. at < first x) (drop begun xs) → AllByRecursion (λ x. at < first x) above
      subst_above a = subst (λ (ys : List K). AllByRecursion (λ x. at < first x) ys) (sym is_above) a

      subst_rising : IsNonDecreasingBy first (drop begun xs) → IsNonDecreasingBy first above
      subst_rising a = subst (λ (ys : List K). IsNonDecreasingBy first ys) (sym is_above) a

-- What of no interval but those that may have the number is anything is of these all that it is of all.
none_of : {K L : Type 0} (f : K → Option L) (xs : List K) → AllByRecursion (λ x. f x ≡ None) xs → filter_map f xs ≡ []
none_of f [] a = refl
none_of f (x ∷ xs) a = ap (λ o. cons_option o (filter_map f xs)) a.0 ∙ none_of f xs a.1

pub near_alone : {K L : Type 0} (first end : K → ℕ) (f : K → Option L) (at : ℕ) (all near above : List K)
    → IsAround first end at all near above → ((x : K) → end x < at → f x ≡ None) → ((x : K) → at < first x → f x ≡ None)
    → filter_map f near ≡ filter_map f all
near_alone {K} {L} first end f at all near above is below behind =
    let front : filter_map f is.ended ≡ [] = none_of f is.ended (each (λ x. end x < at) is.ended below is.below) in
    let back : filter_map f above ≡ [] = none_of f above (each (λ x. at < first x) above behind is.behind) in
    sym (append-nil (filter_map f near)) ∙ ap (λ (ys : List L). filter_map f near ++ ys) (sym back)
    ∙ sym (filter_map-append f near above) ∙ ap (λ (ys : List L). ys ++ filter_map f (near ++ above)) (sym front)
    ∙ sym (filter_map-append f is.ended (near ++ above)) ∙ ap (filter_map f) (sym is.parts)
  where
    each : (P : K → Type 0) (xs : List K) → ((x : K) → P x → f x ≡ None) → AllByRecursion P xs
        → AllByRecursion (λ x. f x ≡ None) xs
    each P [] g a = tt
    each P (x ∷ xs) g a = (g x a.0, each P xs g a.1)
