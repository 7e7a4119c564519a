-- Intervals of numbers, and which of them may have a number (this project's profile).
use Rattle.std.specs.Prelude.{◌≡◌, ◌<◌, ◌++◌, ℕ, max, List, [], ◌∷◌}
use Rattle.std.specs.List.{AllByRecursion}
use Rattle.std.specs.List.Sorted.{IsNonDecreasingBy}

-- Beside each the greatest end of those up to it, and of what was before.
abbrev pub greatest_ends : {K : Type 0} → (K → ℕ) → ℕ → List K → List ℕ
greatest_ends end top [] = []
greatest_ends end top (x ∷ xs) = max top (end x) ∷ greatest_ends end (max top (end x)) xs

-- Intervals by where they begin, with these ends.
pub record AreByFirst {K : Type 0} (first end : K → ℕ) (xs : List K) (ends : List ℕ) : Type 0 where
  pub rising : IsNonDecreasingBy first xs
  pub ends_are : ends ≡ greatest_ends end 0 xs

-- Of all intervals some that have all which may have the number, and those that begin above it.
pub record IsAround {K : Type 0} (first end : K → ℕ) (at : ℕ) (all near above : List K) : Type 0 where
  pub ended : List K
  pub parts : all ≡ ended ++ (near ++ above)
  pub below : AllByRecursion (λ x. end x < at) ended
  pub behind : AllByRecursion (λ x. at < first x) above
  pub rising : IsNonDecreasingBy first above
