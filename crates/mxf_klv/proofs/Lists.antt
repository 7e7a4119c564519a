-- Members of lists that are tested, filtered, searched, mapped and appended.
use Rattle.mxf_klv.proofs.Common.{◌≡◌, ◌↔◌, ◌⊎◌, ◌≤◌, ◌<◌, ◌&&◌, ℕ, zero, suc, Bool, true, List, [], ◌∷◌, ◌++◌, Option}
use Rattle.mxf_klv.proofs.Common.{Some, None, IsTrue, refl, sym, ap, subst, inl, inr, arith, length, filter, filter_map}
use Rattle.mxf_klv.proofs.Common.{get_or, map, list_all, list_any, AllByRecursion, and_from, false_from_ne_true}
use Rattle.mxf_klv.proofs.Common.{ltb-false, In}
use Rattle.std.proofs.Common.{Contains, find, flat_map}

-- ---- all

pub all_from_In : {K : Type 0} (P : K → Type 0) (xs : List K) → ((x : K) → In x xs → P x) → AllByRecursion P xs
all_from_In P [] f = tt
all_from_In P (x ∷ xs) f = (f x (inl refl), all_from_In P xs (λ y h. f y (inr h)))

pub all-In : {K : Type 0} (P : K → Type 0) (xs : List K) (x : K) → AllByRecursion P xs → In x xs → P x
all-In P [] x all h = absurd h
all-In P (y ∷ ys) x all (inl e) = subst P (sym e) all.0
all-In P (y ∷ ys) x all (inr h) = all-In P ys x all.1 h

pub all_append : {K : Type 0} (P : K → Type 0) (xs ys : List K) → AllByRecursion P xs → AllByRecursion P ys
    → AllByRecursion P (xs ++ ys)
all_append P [] ys a b = b
all_append P (x ∷ xs) ys a b = (a.0, all_append P xs ys a.1 b)

pub all_parts : {K : Type 0} (P : K → Type 0) (xs ys : List K) → AllByRecursion P (xs ++ ys)
    → AllByRecursion P xs × AllByRecursion P ys
all_parts P [] ys a = (tt, a)
all_parts P (x ∷ xs) ys a = let rest = all_parts P xs ys a.1 in ((a.0, rest.0), rest.1)

pub all_front : {K : Type 0} (P : K → Type 0) (xs ys : List K) → AllByRecursion P (xs ++ ys) → AllByRecursion P xs
all_front P xs ys a = (all_parts P xs ys a).0

pub all_last : {K : Type 0} (P : K → Type 0) (xs : List K) (x : K) → AllByRecursion P (xs ++ x ∷ []) → P x
all_last P xs x a = (all_parts P xs (x ∷ []) a).1.0

pub all_push : {K : Type 0} (P : K → Type 0) (xs : List K) (x : K) → AllByRecursion P xs → P x
    → AllByRecursion P (xs ++ x ∷ [])
all_push P xs x a p = all_append P xs (x ∷ []) a (p, tt)

pub all-filter : {K : Type 0} (P : K → Type 0) (p : K → Bool) (xs : List K) → AllByRecursion P xs
    → AllByRecursion P (filter p xs)
all-filter P p [] a = tt
all-filter P p (x ∷ xs) a = grind (arith, all-filter P p xs a.1)

pub list_all-In : {K : Type 0} (p : K → Bool) (xs : List K) (x : K) → list_all p xs ≡ true → In x xs → p x ≡ true
list_all-In p [] x a h = absurd h
list_all-In p (y ∷ ys) x a h = grind (arith, list_all-In p ys x)

pub In-list_all : {K : Type 0} (p : K → Bool) (xs : List K) → ((x : K) → In x xs → p x ≡ true) → list_all p xs ≡ true
In-list_all p [] f = refl
In-list_all p (y ∷ ys) f = and_from (p y) (list_all p ys) (f y (inl refl)) (In-list_all p ys (λ x h. f x (inr h)))

-- ---- members

-- one of the list passes the test
pub list_any-In : {K : Type 0} (p : K → Bool) (xs : List K)
    → IsTrue (list_any p xs) ↔ ((x : K) × In x xs × IsTrue (p x))
list_any-In p [] = (λ h. cc, λ s. absurd s.1)
list_any-In {K} p (x ∷ xs) = grind (arith, list_any-In p xs)

-- what a filter leaves
pub In-filter : {K : Type 0} (p : K → Bool) (xs : List K) (y : K) → In y (filter p xs) ↔ (In y xs × IsTrue (p y))
In-filter p [] y = (λ h. absurd h, λ s. absurd s.0)
In-filter p (x ∷ xs) y = grind (arith, In-filter p xs y)

pub In-map : {K L : Type 0} (f : K → L) (xs : List K) (y : L) → In y (map f xs) ↔ ((x : K) × In x xs × (y ≡ f x))
In-map f [] y = (λ h. absurd h, λ s. absurd s.1)
In-map f (x ∷ xs) y = grind (arith, In-map f xs y)

-- what a map that leaves out leaves
pub In-filter_map : {K L : Type 0} (f : K → Option L) (xs : List K) (y : L)
    → In y (filter_map f xs) ↔ ((x : K) × In x xs × (f x ≡ Some y))
In-filter_map f [] y = (λ h. absurd h, λ s. absurd s.1)
In-filter_map {K} {L} f (x ∷ xs) y = grind (arith, In-filter_map f xs y)

pub In-append : {K : Type 0} (z : K) (xs ys : List K) → In z (xs ++ ys) ↔ In z xs ⊎ In z ys
In-append z [] ys = (λ h. inr h, λ h. elim h [ inl k ↦ absurd k | inr k ↦ k ])
In-append z (x ∷ xs) ys = grind (arith, In-append z xs ys)

-- what a list with one more at its end has
pub In-end : {K : Type 0} (z x : K) (xs whole : List K) → whole ≡ xs ++ x ∷ [] → In z whole ↔ In z xs ⊎ (z ≡ x)
In-end z x xs whole e =
    let p = In-append z xs (x ∷ []) in (
      λ h. elim (p.0 (subst (λ l. In z l) e h)) [ inl k ↦ inl k | inr k ↦ elim k [ inl q ↦ inr q | inr n ↦ absurd n ] ],
      λ h. subst (λ l. In z l) (sym e) (p.1 (elim h [ inl k ↦ inl k | inr q ↦ inr (inl q) ])),
    )

pub In-flat_map : {K L : Type 0} (f : K → List L) (xs : List K) (y : L)
    → In y (flat_map f xs) ↔ ((x : K) × In x xs × In y (f x))
In-flat_map f [] y = (λ h. absurd h, λ s. absurd s.1)
In-flat_map f (x ∷ xs) y = grind (arith, In-append y (f x) (flat_map f xs), In-flat_map f xs y)

-- what is left of some elements that are tested and mapped to offsets
pub In-chosen : {K : Type 0} (f : K → ℕ) (p : K → Bool) (xs : List K) (o : ℕ)
    → In o (map f (filter p xs)) ↔ ((x : K) × In x xs × IsTrue (p x) × (f x ≡ o))
In-chosen f p xs o = grind (arith, In-map f (filter p xs) o, In-filter p xs)

pub In-at : {K : Type 0} (xs : List K) (i : ℕ) (d : K) → i < length xs → In (get_or xs i d) xs
In-at [] i d h = absurd (omega arith)
In-at (x ∷ xs) zero d h = inl refl
In-at (x ∷ xs) (suc i) d h = inr (In-at xs i d (omega arith))

pub Contains-from_In : {K : Type 0} (x : K) (xs : List K) → In x xs → Contains xs x
Contains-from_In x [] h = absurd h
Contains-from_In x (y ∷ ys) (inl e) = (0, omega arith, sym e)
Contains-from_In x (y ∷ ys) (inr h) =
    let c = Contains-from_In x ys h in
    let l : c.0 < length ys = c.1 in
    (suc c.0, omega arith, c.2)

pub In-from_Contains : {K : Type 0} (x : K) (xs : List K) → Contains xs x → In x xs
In-from_Contains x xs c = subst (λ y. In y xs) c.2 (In-at xs c.0 x c.1)

-- What a place of a list answers stands in it, or is what is answered else.
pub at_place : {K : Type 0} (xs : List K) (i : ℕ) (d : K) → (get_or xs i d ≡ d) ⊎ In (get_or xs i d) xs
at_place [] i d = inl refl
at_place (x ∷ xs) zero d = inr (inl refl)
at_place (x ∷ xs) (suc i) d = elim (at_place xs i d) [ inl e ↦ inl e | inr h ↦ inr (inr h) ]

-- Where not all are at most a number, one lies above it.
pub some_above : {K : Type 0} (size : K → ℕ) (xs : List K) (at : ℕ) → (((x : K) → In x xs → size x ≤ at) → ⊥)
    → (x : K) × In x xs × (at < size x)
some_above size [] at f = absurd (f (λ x h. absurd h))
some_above {K} size (x ∷ xs) at f = grind (arith, ltb-false at (size x), some_above size xs at)

-- ---- what is found

-- what is found in a list
pub found-In : {K : Type 0} (p : K → Bool) (xs : List K) (y : K) → find p xs ≡ Some y → In y xs × IsTrue (p y)
found-In p [] y e = cc
found-In p (x ∷ xs) y e = grind (arith, found-In p xs y)

pub none_found : {K : Type 0} (p : K → Bool) (xs : List K) (y : K) → find p xs ≡ None → In y xs → IsTrue (p y) → ⊥
none_found p [] y e h t = h
none_found p (x ∷ xs) y e h t = grind (arith, none_found p xs y)

-- where no element passes, none is found
pub find-none : {K : Type 0} (p : K → Bool) (xs : List K) → ((x : K) → In x xs → IsTrue (p x) → ⊥) → find p xs ≡ None
find-none p [] none = refl
find-none p (x ∷ xs) none = grind (arith, find-none p xs (λ y h t. none y (inr h) t))

-- where one element alone passes, it is found
pub find-only : {K : Type 0} (p : K → Bool) (xs : List K) (y : K) → In y xs → IsTrue (p y)
    → ((x : K) → In x xs → IsTrue (p x) → x ≡ y) → find p xs ≡ Some y
find-only p [] y h t one = absurd h
find-only p (x ∷ xs) y h t one = grind (arith, find-only p xs y)

-- ---- what is left

-- there are no more of them
pub length-filter_le : {K : Type 0} (p : K → Bool) (xs : List K) → length (filter p xs) ≤ length xs
length-filter_le p [] = omega arith
length-filter_le p (x ∷ xs) = grind (arith, length-filter_le p xs)

-- there are no more of them
pub length-filter_map : {X Y : Type 0} (f : X → Option Y) (xs : List X) → length (filter_map f xs) ≤ length xs
length-filter_map f [] = omega arith
length-filter_map f (x ∷ xs) = grind (arith, length-filter_map f xs)

pub filter_none : {K : Type 0} (p : K → Bool) (xs : List K) → ((x : K) → In x xs → p x ≡ true → ⊥) → filter p xs ≡ []
filter_none p [] f = refl
filter_none p (x ∷ xs) f = rw (false_from_ne_true (p x) (f x (inl refl))) (filter_none p xs (λ y h. f y (inr h)))

pub filter_all : {K : Type 0} (p : K → Bool) (xs : List K) → ((x : K) → In x xs → p x ≡ true) → filter p xs ≡ xs
filter_all p [] f = refl
filter_all p (x ∷ xs) f = rw (f x (inl refl)) (ap (λ l. x ∷ l) (filter_all p xs (λ y h. f y (inr h))))

pub filter_alike : {K : Type 0} (p q : K → Bool) (xs : List K) → ((x : K) → In x xs → p x ≡ q x)
    → filter p xs ≡ filter q xs
filter_alike p q [] f = refl
filter_alike p q (x ∷ xs) f = grind (arith, filter_alike p q xs (λ y h. f y (inr h)))

-- Some of those that pass a test pass another where some pass and_from.
pub any_of_both : {K : Type 0} (p q : K → Bool) (xs : List K) → list_any q (filter p xs) ≡ list_any (λ x. p x && q x) xs
any_of_both p q [] = refl
any_of_both p q (x ∷ xs) = grind (arith, any_of_both p q xs)

-- Those that pass and_from tests are among those that pass the first.
pub kept_of_both : {K : Type 0} (p q : K → Bool) (xs : List K)
    → filter (λ x. p x && q x) (filter p xs) ≡ filter (λ x. p x && q x) xs
kept_of_both p q [] = refl
kept_of_both p q (x ∷ xs) = grind (arith, kept_of_both p q xs)
