-- Sets of offsets as their maximal runs (this project's profile).
use Rattle.std.specs.Prelude.{ℕ, ◌+◌, ◌<◌, ◌≤◌, List, [], ◌∷◌, ◌↔◌}
use Rattle.mxf_klv.specs.Rising.{In}
use Rattle.mxf_catalogue.specs.declared.run.Run.{Run}

-- The run from a start up to an end, which is excluded.
abbrev pub run : ℕ → ℕ → Run
run start end = record { start = start; end = end }

-- The offset lies in the run.
pub record IsWithin (r : Run) (offset : ℕ) : Type 0 where
  pub from : r.start ≤ offset
  pub before : offset + 1 ≤ r.end

-- The offset lies in one of the runs.
abbrev pub LiesIn : List Run → ℕ → Type 0
LiesIn runs offset = (r : Run) × In r runs × IsWithin r offset

-- The runs rise from an offset on, none is empty, and between two lies an offset that is in none.
abbrev pub AreMaximal : ℕ → List Run → Type 0
AreMaximal low [] = Unit {0}
AreMaximal low (r ∷ runs) = (low ≤ r.start) × (r.start < r.end) × AreMaximal (r.end + 1) runs

-- The same offsets lie in both.
abbrev pub SameOffsets : List Run → List Run → Type 0
SameOffsets a b = (offset : ℕ) → LiesIn a offset ↔ LiesIn b offset
