-- Lists in which an element may tell another, as a packet read whole tells its head: what a listed one tells need not
-- be listed (this project's profile). `tells x` is what x tells; each tells itself, or one that tells itself.
use Rattle.std.specs.Prelude.{◌≡◌, ◌≢◌, ◌⊎◌, Bool, not, ◌&&◌, List, filter}
use Rattle.std.specs.List.{list_any}
use Rattle.std.specs.Ordering.{eq_by_cmp}
use Rattle.std.specs.declared.cmp.Ordering.{Ordering}
use Rattle.mxf_klv.specs.Rising.{In, union}

-- Another of the list tells it.
abbrev pub IsTold : {K : Type 0} → (K → K) → K → List K → Type 0
IsTold {K} tells x xs = (y : K) × In y xs × (y ≢ x) × (tells y ≡ x)

-- None of the list is told by another.
abbrev pub IsReduced : {K : Type 0} → (K → K) → List K → Type 0
IsReduced {K} tells xs = (x : K) → In x xs → IsTold tells x xs → ⊥

-- The list has it, or has one that tells it.
abbrev pub Has : {K : Type 0} → (K → K) → List K → K → Type 0
Has {K} tells xs x = In x xs ⊎ ((y : K) × In y xs × (tells y ≡ x))

-- Those of a set that no other of it tells.
abbrev pub IsUntold : {K : Type 0} → (K → K) → (K → Type 0) → K → Type 0
IsUntold {K} tells P x = P x × ((y : K) → P y → y ≢ x → tells y ≡ x → ⊥)

-- The set with what its members tell.
abbrev pub IsKnown : {K : Type 0} → (K → K) → (K → Type 0) → K → Type 0
IsKnown {K} tells P x = P x ⊎ ((y : K) × P y × (tells y ≡ x))

-- The same as tests, and as lists.

abbrev pub is_told : {K : Type 0} → (K → K → Ordering) → (K → K) → K → List K → Bool
is_told R tells x xs = list_any (λ y. not (eq_by_cmp R y x) && eq_by_cmp R (tells y) x) xs

-- The list without those that another of it tells.
abbrev pub reduce : {K : Type 0} → (K → K → Ordering) → (K → K) → List K → List K
reduce R tells xs = filter (λ x. not (is_told R tells x xs)) xs

-- Two lists in one, without what another tells.
abbrev pub union_reduced : {K : Type 0} → (K → K → Ordering) → (K → K) → List K → List K → List K
union_reduced R tells xs ys = reduce R tells (union R xs ys)
