-- Runs of positions that a clock numbers (this project's profile; labels of a day as in ST 12-1). A position is a unit
-- as it is shown, counted from 0.
use Rattle.std.specs.Prelude.{◌+◌, ◌-◌, ◌*◌, ◌/◌, ◌%◌, ◌==◌, ◌&&◌, ◌<◌, ◌+ℤ◌, nat_le, nat_lt, not, pos, negsuc}
use Rattle.std.specs.Prelude.{if◌then◌else◌, IfSome, ℕ, suc, ℤ, Bool, true, false, Option, Some, None}
use Rattle.std.specs.Option.{option_map, option_map_or}
use Rattle.mxf_views.specs.Places.{greatest_unit}
use Rattle.mxf_tracks.specs.Timecodes.{labels_of_day, number_in_day}
use Rattle.mxf_clocks.specs.declared.clock_track.ClockTrack.{ClockTrack}
use Rattle.mxf_clocks.specs.declared.fraction.Fraction.{Fraction}

-- A run: positions of an index from the first one on, so many of them or without end; the number of the first one,
-- modulo a day; the base, and whether labels are left out; how many timecodes go by in a unit, and how much of the
-- first number has gone by at the first position, in parts of a timecode: as many as the fraction's denominator are
-- one.
pub record RunParts : Type 0 where
  pub index_sid : ℕ
  pub position : ℕ
  pub count : Option ℕ
  pub number : ℕ
  pub base : ℕ
  pub is_drop : Bool
  pub step : Fraction
  pub passed : ℕ

-- Its number is one of a day, less than a timecode has gone by, and it has a position.
pub record IsRun (r : RunParts) : Type 0 where
  pub number : r.number < labels_of_day r.base r.is_drop
  pub passed : r.passed < r.step.denominator
  pub some : IfSome r.count (λ c. 0 < c)

-- The number so many units behind the first position, modulo a day, rounded down.
abbrev pub number_after : RunParts → ℕ → ℕ
number_after r units =
    (r.number + (r.passed + units * r.step.numerator) / r.step.denominator) % labels_of_day r.base r.is_drop

-- The run has the position.
abbrev pub has_position : RunParts → ℕ → Bool
has_position r position =
    nat_le r.position position && option_map_or (λ c. nat_lt (position - r.position) c) r.count true

-- The number of a position that the run has.
abbrev pub number_at : RunParts → ℕ → Option ℕ
number_at r position =
    if has_position r position then Some (number_after r (position - r.position)) else None

-- How many positions from this one on lie below 0.
abbrev pub below_zero : ℤ → ℕ
below_zero (pos p) = 0
below_zero (negsuc p) = suc p

-- The position, or 0 for one below it.
abbrev pub from_zero : ℤ → ℕ
from_zero (pos p) = p
from_zero (negsuc p) = 0

-- A count without those that are lost.
abbrev pub without : ℕ → Option ℕ → Option ℕ
without lost count = option_map (λ c. c - lost) count

abbrev pub is_none_left : Option ℕ → Bool
is_none_left None = false
is_none_left (Some c) = c == 0

-- The number of a clock that stands at its StartTimecode, so many timecodes later, modulo a day.
abbrev pub clock_number : ClockTrack → ℕ → ℕ
clock_number c timecodes = number_in_day (c.start +ℤ pos timecodes) c.base c.is_drop

-- The run that begins so many units behind the start of the clock.
abbrev pub run_at : ℕ → ClockTrack → Fraction → ℕ → ℕ → Option ℕ → RunParts
run_at index_sid c step position start count = record {
  index_sid = index_sid;
  position = position;
  count = count;
  number = clock_number c (start * step.numerator / step.denominator);
  base = c.base;
  is_drop = c.is_drop;
  step = step;
  passed = start * step.numerator % step.denominator;
}

-- The run whose first position is this one, and begins so many units behind the start of the clock, without the
-- positions below 0. There is none if no position is left, or the first one lies above the greatest unit.
unfoldable pub run_from : ℕ → ClockTrack → Fraction → ℤ → ℕ → Option ℕ → Option RunParts
run_from index_sid c step first start count =
    let lost = below_zero first in
    let left = without lost count in
    if nat_le (from_zero first) greatest_unit && not (is_none_left left)
    then Some (run_at index_sid c step (from_zero first) (start + lost) left) else None
