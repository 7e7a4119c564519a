-- How far copies reach, and the first of them that has a packet.
use Rattle.mxf_views.proofs.Common.{◌≡◌, ℕ, zero, suc, ◌+◌, ◌<◌, ◌≤◌, Bool, false, List, [], ◌∷◌, ◌++◌, Some, None}
use Rattle.mxf_views.proofs.Common.{refl, ap, arith, drop, get_or, length, take, filter, find, map, max}
use Rattle.mxf_views.proofs.Common.{then_some, AllWithin, IsNonDecreasing, length-map, NoteParts, end_of, copies_of}
use Rattle.mxf_views.proofs.Common.{StartsRise, copies_followed, is_outside, reaches_from, reaches_of, renewed}
use Rattle.mxf_views.proofs.Common.{is_in_copy, find-none, length-filter_le, all-In, IsStartBelow, EndsBy}
use Rattle.mxf_views.specs.declared.copy.CopyInfo.{CopyInfo}
use Rattle.mxf_views.specs.Kept.{reach_from, reach_of}
use Rattle.mxf_views.proofs.KeyedLists.{length-with_found}

pub length-reaches_from : (high : ℕ) (cs : List CopyInfo) → length (reaches_from high cs) ≡ length cs
length-reaches_from high [] = refl
length-reaches_from high (c ∷ cs) = ap suc (length-reaches_from (max high (reach_of c)) cs)

above_high : (high : ℕ) (cs : List CopyInfo) (i d : ℕ) → i < length (reaches_from high cs)
    → high ≤ get_or (reaches_from high cs) i d
above_high high [] i d h = absurd (omega arith)
above_high high (c ∷ cs) zero d h = omega arith
above_high high (c ∷ cs) (suc i) d h =
    let m = above_high (max high (reach_of c)) cs i d (omega arith) in omega (arith, m)

pub reaches_never_fall : (high : ℕ) (cs : List CopyInfo) → IsNonDecreasing (reaches_from high cs)
reaches_never_fall high [] i j d l h = absurd (omega arith)
reaches_never_fall high (c ∷ cs) zero zero d l h = omega arith
reaches_never_fall high (c ∷ cs) zero (suc j) d l h = above_high (max high (reach_of c)) cs j d (omega arith)
reaches_never_fall high (c ∷ cs) (suc i) zero d l h = absurd (omega arith)
reaches_never_fall high (c ∷ cs) (suc i) (suc j) d l h =
    reaches_never_fall (max high (reach_of c)) cs i j d (omega arith) (omega arith)

-- A copy that ends below the packet's end doesn't have it.
far_lacks : (n : NoteParts) (c : CopyInfo) → end_of n ≤ 18446744073709551615 → reach_of c < end_of n
    → is_in_copy n c ≡ false
far_lacks n c fits l = grind (arith)

-- One that reaches the packet's end and doesn't have it starts behind the packet's offset.
record StartsBehind (n : NoteParts) (c : CopyInfo) : Type 0 where
  start : ℕ
  begins : c.start ≡ Some start
  behind : n.offset < start

near_lacks : (n : NoteParts) (c : CopyInfo) → end_of n ≤ reach_of c → is_in_copy n c ≡ false → StartsBehind n c
near_lacks n c l f = grind (arith)

-- So do all later ones.
later_lacks : (n : NoteParts) (c d : CopyInfo) → StartsBehind n c → IsStartBelow c.start d.start
    → is_in_copy n d ≡ false
later_lacks n c d b l = grind (arith)

-- None has the packet where all end below its end.
pub none_reaches : (n : NoteParts) (high : ℕ) (cs : List CopyInfo) (at : ℕ) → end_of n ≤ 18446744073709551615
    → AllWithin (λ r. r < end_of n) (reaches_from high cs) 0 at → length cs ≤ at → find (is_in_copy n) cs ≡ None
none_reaches n high [] at fits a l = refl
none_reaches n high (c ∷ cs) zero fits a l = absurd (omega arith)
none_reaches n high (c ∷ cs) (suc at) fits a l =
    let first : max high (reach_of c) < end_of n = a 0 0 (omega arith) (omega arith) in
    let lacks : is_in_copy n c ≡ false = far_lacks n c fits (omega (arith, first)) in
    rw lacks (none_reaches n (max high (reach_of c)) cs at fits
    (λ k d m h. a (suc k) d (omega arith) (omega arith)) (omega arith))

-- Else the first that reaches it tells.
pub first_reaches : (n : NoteParts) (high : ℕ) (cs : List CopyInfo) (at : ℕ) (d : CopyInfo)
    → end_of n ≤ 18446744073709551615 → StartsRise cs → high < end_of n → at < length cs
    → AllWithin (λ r. r < end_of n) (reaches_from high cs) 0 at → end_of n ≤ get_or (reaches_from high cs) at 0
    → then_some (is_in_copy n (get_or cs at d)) (get_or cs at d) ≡ find (is_in_copy n) cs
first_reaches n high [] at d fits r h l a b = absurd (omega arith)
first_reaches n high (c ∷ cs) zero d fits r h l a b = grind (arith, find-none, all-In, later_lacks, near_lacks)
first_reaches n high (c ∷ cs) (suc at) d fits r h l a b =
    let first : max high (reach_of c) < end_of n = a 0 0 (omega arith) (omega arith) in
    let lacks : is_in_copy n c ≡ false = far_lacks n c fits (omega (arith, first)) in
    rw lacks (first_reaches n (max high (reach_of c)) cs at d fits r.1 first (omega arith)
    (λ k d m h. a (suc k) d (omega arith) (omega arith)) b)

-- The first reaches, and those of the copies behind from the greatest of these on.
pub reaches_go_on : (high : ℕ) (cs : List CopyInfo) (at : ℕ) → at ≤ length cs
    → take at (reaches_from high cs) ++ reaches_from (get_or (high ∷ reaches_from high cs) at 0) (drop at cs)
    ≡ reaches_from high cs
reaches_go_on high cs zero l = refl
reaches_go_on high [] (suc at) l = absurd (omega arith)
reaches_go_on high (c ∷ cs) (suc at) l =
    ap (λ xs. max high (reach_of c) ∷ xs) (reaches_go_on (max high (reach_of c)) cs at (omega arith))

pub take_reaches : (high : ℕ) (cs : List CopyInfo) (at : ℕ)
    → take at (reaches_from high cs) ≡ reaches_from high (take at cs)
take_reaches high cs zero = refl
take_reaches high [] (suc at) = refl
take_reaches high (c ∷ cs) (suc at) = ap (λ xs. max high (reach_of c) ∷ xs) (take_reaches (max high (reach_of c)) cs at)

-- A copy reaches no further than it and those before it.
reach_among : (high : ℕ) (cs : List CopyInfo) (k : ℕ) (d : CopyInfo) → k < length cs
    → reach_of (get_or cs k d) ≤ get_or (reaches_from high cs) k 0
reach_among high [] k d h = absurd (omega arith)
reach_among high (c ∷ cs) zero d h = omega arith
reach_among high (c ∷ cs) (suc k) d h = reach_among (max high (reach_of c)) cs k d (omega arith)

-- Where the first copies reach no further than an offset, their zones end there or below.
pub ends_by_reach : (cs : List CopyInfo) (limit offset at : ℕ) → limit ≤ offset + 1 → limit ≤ 18446744073709551615
    → at ≤ length cs → AllWithin (λ r. r < limit) (reaches_of cs) 0 at → AllWithin (EndsBy offset) cs 0 at
ends_by_reach cs limit offset at l m n a k d from below s e =
    let c = get_or cs k d in
    let reach : reach_of c ≤ get_or (reaches_of cs) k 0 = reach_among 0 cs k d (omega (arith, n, below)) in
    let high : get_or (reaches_of cs) k 0 < limit = a k 0 from below in
    let is : reach_of c ≡ reach_from c.bytes (Some s) = ap (reach_from c.bytes) e in
    omega (arith, reach, high, is, l, m)

-- An arrival brings one copy at most.
pub length-copies_followed : (notes : List NoteParts) (offset start end : ℕ) (brings : Bool) (cs : List CopyInfo)
    → length (copies_followed notes offset start end brings cs) ≤ length cs + 1
length-copies_followed notes offset start end brings cs =
    grind (arith, filter, is_outside, length-with_found, find, copies_of, map, renewed, length-map, length-filter_le)
