-- Where those stand that are the same as one, in a list that is sorted by what they are compared by.
use Rattle.mxf_klv.proofs.Common.{◌≡◌, ◌∙◌, ◌+◌, ◌≤◌, ◌<◌, ◌&&◌, ℕ, zero, suc, true, false, List, [], ◌∷◌, arith, drop}
use Rattle.mxf_klv.proofs.Common.{filter, get_or, length, min, nat_le, nat_lt, take, AllWithin, IsNonDecreasingBy}
use Rattle.mxf_klv.proofs.Common.{IsPartitionedBy, IsPartitionedBy-ltb, IsSortedByKey, IsTotalOrder, Ordering, Less}
use Rattle.mxf_klv.proofs.Common.{Greater, eq_by_cmp, is_eq, is_lt, ordering_index, ordering_reverse, ordering_then}
use Rattle.mxf_klv.proofs.Common.{searchable_from_sorted, IsRising, less_in, nat_cmp, nat_cmp_total}
use Rattle.mxf_klv.proofs.Lists.{In-at, filter_alike}
use Rattle.mxf_klv.proofs.Tests.{by_places, lt_from_less}
use Rattle.mxf_klv.proofs.Windows.{window}

pub rising_places : {K : Type 0} {R : K → K → Ordering} (o : IsTotalOrder R) (xs : List K) (i j : ℕ) (d : K)
    → IsRising R xs → i < j → j < length xs → R (get_or xs i d) (get_or xs j d) ≡ Less
rising_places o [] i j d r h l = absurd (omega arith)
rising_places o (x ∷ xs) i zero d r h l = absurd (omega arith)
rising_places o (x ∷ xs) zero (suc j) d r h l = less_in o x (get_or xs j d) xs r.0 (In-at xs j d (omega arith))
rising_places o (x ∷ xs) (suc i) (suc j) d r h l = rising_places o xs i j d r.1 (omega arith) (omega arith)

-- Numbers that rise don't fall.
pub numbers_rise : (xs : List ℕ) → IsRising nat_cmp xs → IsNonDecreasingBy (λ n. n) xs
numbers_rise xs r i j d l h = by_places (λ i j. get_or xs i d ≤ get_or xs j d) i j l (λ k. omega arith) (λ t.
    let less = lt_from_less (get_or xs i d) (get_or xs j d) (rising_places nat_cmp_total xs i j d r t h) in
    omega (arith, less))

-- What compares greater by the first of two orders isn't less by both.
pub first_decides : (a b : Ordering) → a ≡ Greater → ordering_then a b ≡ Less → ⊥
first_decides a b e f = let g = rw e at f in cc (g)

not_back : (o : Ordering) → (ordering_reverse o ≡ Greater → ⊥) → is_lt o ≡ false
not_back o f = grind arith

-- What rises is sorted by what never turns back where it rises.
pub rising_sorted : {K L : Type 0} {R : K → K → Ordering} {S : L → L → Ordering} (o : IsTotalOrder R)
    (p : IsTotalOrder S)
    (key : K → L) (xs : List K) → ((x y : K) → R x y ≡ Less → S (key x) (key y) ≡ Greater → ⊥) → IsRising R xs
    → IsSortedByKey key S xs
rising_sorted {S = S} o p key xs coarse rising i d l h =
    let x = get_or xs i d in
    let y = get_or xs (i + 1) d in
    not_back (S (key y) (key x)) (λ g.
    coarse x y (rising_places o xs i (i + 1) d rising (omega arith) h) (p.antisymm (key x) (key y) ∙ g))

-- On which side of one an element stands: below it 0, the same 1, above it 2.
abbrev pub side_by : {K L : Type 0} → (L → L → Ordering) → (K → L) → L → K → ℕ
side_by R key n x = ordering_index (R (key x) n)

module _ {K L : Type 0} {R : L → L → Ordering} (o : IsTotalOrder R) (key : K → L) (n : L) (xs : List K)
    (sorted : IsSortedByKey key R xs) where
  pub sides_rise : IsNonDecreasingBy (side_by R key n) xs
  sides_rise = searchable_from_sorted o key xs n sorted

  pub sides_parted : (bound : ℕ) → IsPartitionedBy (λ x. nat_lt (side_by R key n x) bound) xs
  sides_parted bound = IsPartitionedBy-ltb (side_by R key n) xs bound sides_rise

low : (s : ℕ) → nat_lt s 1 ≡ true → nat_le 1 s ≡ false
low s t = grind arith

high : (s : ℕ) → nat_lt s 1 ≡ false → nat_le 1 s ≡ true
high s t = grind arith

same_side : (o : Ordering) → (nat_le 1 (ordering_index o) && nat_lt (ordering_index o) 2) ≡ is_eq o
same_side o = grind arith

-- Those that are the same as one stand between two places.
pub sides_run : {K L : Type 0} (R : L → L → Ordering) (key : K → L) (n : L) (xs : List K) (a b : ℕ) → b ≤ length xs
    → AllWithin (λ x. nat_lt (side_by R key n x) 1 ≡ true) xs 0 a
    → AllWithin (λ x. nat_lt (side_by R key n x) 1 ≡ false) xs a (length xs)
    → AllWithin (λ x. nat_lt (side_by R key n x) 2 ≡ true) xs 0 b
    → AllWithin (λ x. nat_lt (side_by R key n x) 2 ≡ false) xs b (length xs)
    → drop (min a b) (take b xs) ≡ filter (λ x. eq_by_cmp R (key x) n) xs
sides_run R key n xs a b within below from up_to above =
    window (λ x. nat_le 1 (side_by R key n x)) (λ x. nat_lt (side_by R key n x) 2) xs a b within
    (λ i d l h. low (side_by R key n (get_or xs i d)) (below i d l h))
    (λ i d l h. high (side_by R key n (get_or xs i d)) (from i d l h)) up_to above
    ∙ filter_alike (λ x. nat_le 1 (side_by R key n x) && nat_lt (side_by R key n x) 2)
    (λ x. eq_by_cmp R (key x) n) xs (λ x i. same_side (R (key x) n))
