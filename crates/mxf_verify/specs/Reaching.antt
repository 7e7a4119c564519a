-- How far ranges reach, and those before them (this project's profile).
use Rattle.std.specs.Prelude.{◌≡◌, ◌≤◌, ℕ, List}
use Rattle.std.specs.List.Sorted.{IsNonDecreasingBy}
use Rattle.mxf_klv.specs.Rising.{In}
use Rattle.mxf_catalogue.specs.declared.run.Run.{Run}
use Rattle.mxf_units.specs.Intervals.{greatest_ends}

-- Ranges by where they begin, and beside each the greatest end up to it.
pub record AreReaching (runs : List Run) (ends : List ℕ) : Type 0 where
  pub rising : IsNonDecreasingBy (λ r. r.start) runs
  pub ends_are : ends ≡ greatest_ends (λ r. r.end) 0 runs

-- One of the ranges has all offsets from one up to another.
abbrev pub HasOne : List Run → ℕ → ℕ → Type 0
HasOne runs start end = (r : Run) × In r runs × (r.start ≤ start) × (end ≤ r.end)
