-- Fractions in lowest terms, and how durations go over from one rate to another (this project's profile).
use Rattle.std.specs.Prelude.{◌+◌, ◌-◌, ◌*◌, ◌/◌, ◌%◌, ◌==◌, ◌&&◌, unsigned_abs, if◌then◌else◌, ℕ, zero, suc}
use Rattle.std.specs.Prelude.{Option, Some, None, min}
use Rattle.std.specs.Option.{option_map}
use Rattle.mxf_sets.specs.declared.record.rate.Rate.{Rate}
use Rattle.mxf_clocks.specs.declared.fraction.Fraction.{Fraction}

-- The greatest number up to a bound that divides both; 0 if none does.
unfoldable pub divisor_up_to : ℕ → ℕ → ℕ → ℕ
divisor_up_to a b zero = 0
divisor_up_to a b (suc d) = if (a % suc d == 0) && (b % suc d == 0) then suc d else divisor_up_to a b d

-- The greatest common divisor of a number above 0 and another.
unfoldable pub greatest_divisor : ℕ → ℕ → ℕ
greatest_divisor a b = divisor_up_to a b a

-- One number over another, in lowest terms.
abbrev pub lowest : ℕ → ℕ → Fraction
lowest a b = record { numerator = a / greatest_divisor a b; denominator = b / greatest_divisor a b }

-- A rate over another: how many of the first go by in one of the second, as timecodes in a unit.
abbrev pub rate_over : Rate → Rate → Fraction
rate_over a b =
    lowest (unsigned_abs a.numerator * unsigned_abs b.denominator)
    (unsigned_abs a.denominator * unsigned_abs b.numerator)

-- How many units begin within a duration of timecodes: it over the fraction, rounded up.
abbrev pub units_within : Fraction → ℕ → ℕ
units_within step duration = (duration * step.denominator + (step.numerator - 1)) / step.numerator

-- How many of them are left from a unit on, if the duration is known.
abbrev pub units_left : Fraction → ℕ → Option ℕ → Option ℕ
units_left step start duration = option_map (λ d. units_within step d - start) duration

-- The lesser of two counts, or the one that is known.
abbrev pub lesser : Option ℕ → Option ℕ → Option ℕ
lesser None b = b
lesser (Some a) None = Some a
lesser (Some a) (Some b) = Some (min a b)
