-- Loops over a list that append what a function answers of each item: what they hold so far, with what the function
-- answers of the items to come, stays the same.
use Rattle.mxf_views.proofs.Common.{◌≡◌, ◌∙◌, ◌<◌, ◌+◌, ◌++◌, [], ℕ, List, ap, append-nil, append_assoc, drop, flat_map}
use Rattle.mxf_views.proofs.Common.{get_or, length, sym, at_drop_more}

-- The function answers a list, which was appended.
pub appended-step : {X Y : Type 0} (f : X → List Y) (xs : List X) (i : ℕ) (d : X) (so_far new whole : List Y)
    → i < length xs → new ≡ so_far ++ f (get_or xs i d) → so_far ++ flat_map f (drop i xs) ≡ whole
    → new ++ flat_map f (drop (i + 1) xs) ≡ whole
appended-step {X} {Y} f xs i d so_far new whole here grown before =
    let rest = flat_map f (drop (i + 1) xs) in
    ap (λ (l : List Y). l ++ rest) grown ∙ append_assoc so_far (f (get_or xs i d)) rest
    ∙ ap (λ (l : List Y). so_far ++ l) (sym (at_drop_more (flat_map f) xs i d here)) ∙ before

-- No items are to come, of which a function of all gave nothing.
pub nothing_left : {X Y : Type 0} (f : List X → List Y) (rest : List X) (so_far whole : List Y) → f [] ≡ []
    → rest ≡ [] → so_far ++ f rest ≡ whole → so_far ≡ whole
nothing_left {X} {Y} f rest so_far whole none ended before =
    sym (append-nil so_far) ∙ ap (λ (l : List Y). so_far ++ l) (sym none)
    ∙ sym (ap (λ (l : List X). so_far ++ f l) ended) ∙ before
