-- Runs of edit units as they are gathered, one unit after another (this project's profile).
use Rattle.std.specs.Prelude.{◌≡◌, ◌≢◌, ◌⊎◌, ◌^◌, ◌<◌, ◌≤◌, ℕ, List, [], ◌∷◌, ◌++◌}
use Rattle.std.specs.List.{AllByRecursion}
use Rattle.mxf_verify.specs.Fixities.{units_in}
use Rattle.mxf_verify.specs.declared.fixity.UnitFixity.{UnitFixity}
use Rattle.mxf_verify.specs.declared.verified_units.UnitRun.{UnitRun}

-- A unit goes to the last run if it stands as that does, and otherwise begins a run.
abbrev pub TakesUnit : List UnitRun → UnitRun → ℕ → UnitFixity → List UnitRun → UnitRun → Type 0
TakesUnit runs last unit fixity new_runs new_last =
    ((last.fixity ≡ fixity) × (new_runs ≡ runs)
    × (new_last ≡ record { first = last.first; last = unit; fixity = fixity }))
    ⊎ ((last.fixity ≢ fixity) × (new_runs ≡ runs ++ last ∷ [])
    × (new_last ≡ record { first = unit; last = unit; fixity = fixity }))

-- None of the runs is empty, and a count of their units fits.
pub record AreCounted (runs : List UnitRun) : Type 0 where
  pub order : AllByRecursion (λ r. r.first ≤ r.last) runs
  pub bound : units_in runs < 2 ^ 64
