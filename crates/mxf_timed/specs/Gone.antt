-- How the timecodes of a run go by (this project's profile).
use Rattle.std.specs.Prelude.{◌≡◌, ◌↔◌, ◌+◌, ◌*◌, ◌/◌, ◌<◌, ◌≤◌, ◌==◌, ◌&&◌, if◌then◌else◌, ℕ, Bool, true, false, None}
use Rattle.mxf_views.specs.Places.{greatest_unit}
use Rattle.mxf_clocks.specs.Runs.{RunParts, has_position}
use Rattle.mxf_timed.specs.declared.positions.ShownAt.{ShownAt}
use Rattle.mxf_timed.specs.declared.positions.ShownAt.TheVariants.{Nowhere, At, Several}

-- How many whole timecodes have gone by so many units behind the first position.
abbrev pub gone_after : RunParts → ℕ → ℕ
gone_after r units = (r.passed + units * r.step.numerator) / r.step.denominator

-- The run has no position that can be asked for.
abbrev pub AreNone : RunParts → Type 0
AreNone r = (p : ℕ) → has_position r p ≡ true → ¬ (p ≤ greatest_unit)

-- Those that can be asked for are the first, and so many behind it.
abbrev pub AreUpTo : RunParts → ℕ → Type 0
AreUpTo r most =
    (p : ℕ) → ((has_position r p ≡ true) × (p ≤ greatest_unit)) ↔ ((r.position ≤ p) × (p ≤ r.position + most))

-- The numbers that are asked for lie up to so many timecodes behind the first.
abbrev pub IsLastGone : RunParts → ℕ → ℕ → ℕ → Type 0
IsLastGone r most day last =
    (gone : ℕ) → (gone ≤ last) ↔ ((gone ≤ gone_after r most) × (r.count ≡ None → gone < day))

abbrev pub is_several : ShownAt → Bool
is_several Several = true
is_several _ = false

-- Ranges of two answers, equal ones counted once.
abbrev pub joined : ShownAt → ShownAt → ShownAt
joined Nowhere b = b
joined (At f l) Nowhere = At f l
joined (At f l) (At g m) = if (f == g) && (l == m) then At f l else Several
joined (At f l) Several = Several
joined Several b = Several
