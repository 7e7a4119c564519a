-- Lists whose elements are changed one after another, and ranges of lists.
use borrow.Rule.Slice.PartMut.{put_mid}
use Rattle.std.proofs.Common.{◌≡◌, ℕ, zero, suc, ◌+◌, ◌-◌, ◌<◌, ◌≤◌, List, [], ◌∷◌, ◌++◌, refl, ap, arith, drop, get_or}
use Rattle.std.proofs.Common.{length, map, set, sym, ◌∙◌, append-nil, inr, subst, take}
use Rattle.std.proofs.lemmas.List.{drop_all, drop-take, length-append, length-drop, length-take, take_all}
use Rattle.mxf_klv.specs.Rising.{In}
use Rattle.std.specs.List.{AllWithin}

-- Changing the next one as well.
pub next_changed : {K : Type 0} (f : K → K) (xs : List K) (d : K) (i : ℕ) → i < length xs
    → set (map f (take i xs) ++ drop i xs) i (f (get_or (map f (take i xs) ++ drop i xs) i d))
    ≡ map f (take (i + 1) xs) ++ drop (i + 1) xs
next_changed f [] d i h = absurd (omega arith)
next_changed f (x ∷ xs) d zero h = refl
next_changed f (x ∷ xs) d (suc i) h = grind (arith, next_changed f xs d i (omega arith))

-- What is not changed yet is there as before.
pub next_unchanged : {K : Type 0} (f : K → K) (xs : List K) (d : K) (i : ℕ) → i < length xs
    → get_or (map f (take i xs) ++ drop i xs) i d ≡ get_or xs i d
next_unchanged f [] d i h = absurd (omega arith)
next_unchanged f (x ∷ xs) d zero h = refl
next_unchanged f (x ∷ xs) d (suc i) h = next_unchanged f xs d i (omega arith)

-- Where a function leaves the first elements as they are, only those behind them need be changed.
pub map_rest : {K : Type 0} (f : K → K) (xs : List K) (at : ℕ) → AllWithin (λ x. f x ≡ x) xs 0 at
    → take at xs ++ map f (drop at xs) ≡ map f xs
map_rest f xs zero a = refl
map_rest f [] (suc at) a = refl
map_rest f (x ∷ xs) (suc at) a = ap (λ l. x ∷ l) (map_rest f xs at (λ k d l h. a (suc k) d (omega arith) (omega arith)))
    ∙ ap (λ y. y ∷ map f xs) (sym (a 0 x (omega arith) (omega arith)))

-- What stands before an element is told by the first alone.
pub before_taken : {K : Type 0} (x : K) (xs : List K) (at : ℕ) (d : K)
    → get_or (x ∷ xs) at d ≡ get_or (x ∷ take at xs) at d
before_taken x xs zero d = refl
before_taken x [] (suc at) d = refl
before_taken x (y ∷ xs) (suc at) d = before_taken y xs at d

pub rest_taken : {K : Type 0} (xs : List K) (at : ℕ) → take (length xs - at) (drop at xs) ≡ drop at xs
rest_taken xs at = let l = length-drop at xs in take_all (length xs - at) (drop at xs) (omega (arith, l))

In-drop : {K : Type 0} (xs : List K) (x : K) (at : ℕ) → In x (drop at xs) → In x xs
In-drop xs x zero h = h
In-drop [] x (suc at) h = h
In-drop (y ∷ xs) x (suc at) h = inr (In-drop xs x at h)

-- What is in the rest of a list, read as a range up to its end, is in the list.
pub in_rest : {K : Type 0} (xs : List K) (x : K) (at : ℕ) → In x (take (length xs - at) (drop at xs)) → In x xs
in_rest xs x at h = In-drop xs x at (subst (In x) (rest_taken xs at) h)

-- A list once others were written in place of all from a place on.
pub rest_written : {K : Type 0} (xs zs ys : List K) (at len : ℕ) → zs ≡ xs → len ≡ length xs → at ≤ length xs
    → length ys ≡ length xs - at
    → take len (put_mid at (length zs - at) zs ys ++ drop (length (put_mid at (length zs - at) zs ys)) xs)
    ≡ take at xs ++ ys
rest_written {K} xs zs ys at len e whole l m =
    grind (arith, append-nil, drop_all, length-append, length-drop, length-take, take_all)

-- A range as std takes it out.
pub middle : {K : Type 0} (xs : List K) (from to : ℕ) → from ≤ to
    → take (to - from) (drop from xs) ≡ drop from (take to xs)
middle xs from to l = grind (arith, drop-take from (to - from) xs)
