-- Lengths of durations in thousandths of a second (this project's profile).
use Rattle.std.specs.Prelude.{ℕ, ◌+◌, ◌*◌, ◌/◌, ◌<◌, ◌≤◌, ◌<ℤ◌, pos, unsigned_abs, if◌then◌else◌, Option, Some, None}
use Rattle.mxf_sets.specs.Rate.{is_good}
use Rattle.mxf_sets.specs.declared.record.rate.Rate.{Rate}

-- The length of so many edit units at a rate, rounded down; none where the rate isn't good.
abbrev pub length_of : ℕ → Rate → Option ℕ
length_of duration rate =
    if is_good rate then Some (duration * unsigned_abs rate.denominator * 1000 / unsigned_abs rate.numerator)
    else None

-- So many edit units at a good rate last as many whole thousandths of a second: no longer than the units, and with one
-- more longer.
pub record IsLengthOf (duration : ℕ) (rate : Rate) (thousandths : ℕ) : Type 0 where
  pub numerator : pos 0 <ℤ rate.numerator
  pub denominator : pos 0 <ℤ rate.denominator
  pub no_longer : thousandths * unsigned_abs rate.numerator ≤ duration * unsigned_abs rate.denominator * 1000
  pub next_longer : duration * unsigned_abs rate.denominator * 1000 < (thousandths + 1) * unsigned_abs rate.numerator
