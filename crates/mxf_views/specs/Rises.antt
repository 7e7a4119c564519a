-- Lists that rise by a number of each element, its key.
use Rattle.std.specs.Prelude.{ℕ, ◌<◌, List, [], ◌∷◌}
use Rattle.std.specs.List.{AllByRecursion}

-- The key of each is below those of all later ones.
abbrev pub RiseBy : {A : Type 0} → (A → ℕ) → List A → Type 0
RiseBy key [] = Unit {0}
RiseBy key (x ∷ xs) = AllByRecursion (λ y. key x < key y) xs × RiseBy key xs
