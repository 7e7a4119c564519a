-- What a window of a list is, between two places.
use Rattle.std.proofs.Common.{◌≡◌, ◌<◌, ◌≤◌, ◌∙◌, ◌&&◌, ℕ, zero, suc, Bool, true, false, cond, List, [], ◌∷◌, refl, sym}
use Rattle.std.proofs.Common.{ap, arith, length, get_or, drop, filter, min, take}
use Rattle.std.specs.List.{AllWithin}
use Rattle.mxf_klv.proofs.Tests.{not_both}

drop_nil : {K : Type 0} (n : ℕ) → drop {A = K} n [] ≡ []
drop_nil zero = refl
drop_nil (suc n) = refl

none_left : {K : Type 0} (p q : K → Bool) (xs : List K)
    → ((k : ℕ) (d : K) → k < length xs → q (get_or xs k d) ≡ false) → filter (λ x. p x && q x) xs ≡ []
none_left p q [] f = refl
none_left p q (x ∷ xs) f =
    let rest = none_left p q xs (λ k d l. f (suc k) d (omega arith)) in
    let fails : (p x && q x) ≡ false = not_both (p x) (q x) (λ e t. let u = f 0 x (omega arith) in cc (t, u)) in
    ap (λ b. cond b (x ∷ filter (λ y. p y && q y) xs) (filter (λ y. p y && q y) xs)) fails ∙ rest

-- What is left where a list fails one test up to a place and passes it from there on, and passes another up to a place
-- and fails it from there on.
pub window : {K : Type 0} (p q : K → Bool) (xs : List K) (a b : ℕ) → b ≤ length xs
    → AllWithin (λ x. p x ≡ false) xs 0 a → AllWithin (λ x. p x ≡ true) xs a (length xs)
    → AllWithin (λ x. q x ≡ true) xs 0 b → AllWithin (λ x. q x ≡ false) xs b (length xs)
    → drop (min a b) (take b xs) ≡ filter (λ x. p x && q x) xs
window p q [] a zero h pb pa qb qa = drop_nil (min a 0)
window p q [] a (suc b) h pb pa qb qa = absurd (omega arith)
window p q (x ∷ xs) a zero h pb pa qb qa =
    drop_nil (min a 0) ∙ sym (none_left p q (x ∷ xs) (λ k d l. qa k d (omega arith) l))
window p q (x ∷ xs) zero (suc b) h pb pa qb qa =
    let e : min 0 (suc b) ≡ 0 = omega arith in
    let f : min 0 b ≡ 0 = omega arith in
    let px = pa 0 x (omega arith) (omega arith) in
    let qx = qb 0 x (omega arith) (omega arith) in
    let rest = window p q xs zero b (omega arith) (λ k d l m. absurd (omega arith))
    (λ k d l m. pa (suc k) d (omega arith) (omega arith)) (λ k d l m. qb (suc k) d (omega arith) (omega arith))
    (λ k d l m. qa (suc k) d (omega arith) (omega arith)) in
    ap (λ n. drop n (x ∷ take b xs)) e ∙ ap (λ ys. x ∷ ys) (sym (ap (λ n. drop n (take b xs)) f) ∙ rest)
    ∙ sym (λ i. cond (px i && qx i) (x ∷ filter (λ y. p y && q y) xs) (filter (λ y. p y && q y) xs))
window p q (x ∷ xs) (suc a) (suc b) h pb pa qb qa =
    let e : min (suc a) (suc b) ≡ suc (min a b) = omega arith in
    let px = pb 0 x (omega arith) (omega arith) in
    let rest = window p q xs a b (omega arith) (λ k d l m. pb (suc k) d (omega arith) (omega arith))
    (λ k d l m. pa (suc k) d (omega arith) (omega arith)) (λ k d l m. qb (suc k) d (omega arith) (omega arith))
    (λ k d l m. qa (suc k) d (omega arith) (omega arith)) in
    ap (λ n. drop n (x ∷ take b xs)) e ∙ rest
    ∙ sym (λ i. cond (px i && q x) (x ∷ filter (λ y. p y && q y) xs) (filter (λ y. p y && q y) xs))
