-- How the number of a clock goes on (this project's profile).
use Rattle.std.specs.Prelude.{◌+◌, ◌*◌, ◌/◌, ◌%◌, ◌+ℤ◌, pos, ℕ}
use Rattle.mxf_tracks.specs.Timecodes.{number_in_day}
use Rattle.mxf_clocks.specs.declared.clock_track.ClockTrack.{ClockTrack}
use Rattle.mxf_clocks.specs.declared.fraction.Fraction.{Fraction}
use Rattle.mxf_clocks.specs.declared.run.Moment.{Moment}

-- The moment so many units later, of a day with so many labels: what has gone by and what the units take are whole
-- timecodes, and parts of one.
abbrev pub moved : ℕ → Fraction → Moment → ℕ → Moment
moved labels step m units = record {
  number = (m.number + (m.passed + units * step.numerator) / step.denominator) % labels;
  passed = (m.passed + units * step.numerator) % step.denominator;
}

-- Where a clock stands so many units behind its start.
abbrev pub moment_of : ClockTrack → Fraction → ℕ → Moment
moment_of c step units = record {
  number = number_in_day (c.start +ℤ pos (units * step.numerator / step.denominator)) c.base c.is_drop;
  passed = units * step.numerator % step.denominator;
}
