-- Loops over what is found of a list.
use Rattle.mxf_views.proofs.Common.{◌≡◌, ◌∙◌, ◌+◌, ◌<◌, ℕ, List, [], ◌∷◌, Option, Some, None, ap, at_drop_all, at_drop_more}
use Rattle.mxf_views.proofs.Common.{◌≤◌, cons_option, drop, filter_map, get_or, length}

pub mapped_next : {A B : Type 0} (f : A → Option B) (xs : List A) (i : ℕ) (d : A) (y : B) → i < length xs
    → f (get_or xs i d) ≡ Some y → filter_map f (drop i xs) ≡ y ∷ filter_map f (drop (i + 1) xs)
mapped_next f xs i d y here e =
    at_drop_more (filter_map f) xs i d here ∙ ap (λ o. cons_option o (filter_map f (drop (i + 1) xs))) e

pub mapped_passed : {A B : Type 0} (f : A → Option B) (xs : List A) (i : ℕ) (d : A) → i < length xs
    → f (get_or xs i d) ≡ None → filter_map f (drop i xs) ≡ filter_map f (drop (i + 1) xs)
mapped_passed f xs i d here e =
    at_drop_more (filter_map f) xs i d here ∙ ap (λ o. cons_option o (filter_map f (drop (i + 1) xs))) e

pub mapped_all : {A B : Type 0} (f : A → Option B) (xs : List A) (i : ℕ) → length xs ≤ i
    → filter_map f (drop i xs) ≡ []
mapped_all f xs i there = at_drop_all (filter_map f) xs i there
