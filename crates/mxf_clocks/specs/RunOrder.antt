-- The order of runs (this project's profile).
use Rattle.std.specs.Prelude.{◌*◌, max, is_none, unwrap_or, ℕ, Option}
use Rattle.std.specs.Ordering.{bool_cmp, nat_cmp, on, then_cmp}
use Rattle.std.specs.declared.cmp.Ordering.{Ordering}
use Rattle.mxf_clocks.specs.declared.fraction.Fraction.{Fraction}
use Rattle.mxf_clocks.specs.Runs.{RunParts}

-- By value. (No fraction in lowest terms has a denominator of 0: one would count as 1.)
abbrev pub value_cmp : Fraction → Fraction → Ordering
value_cmp a b = nat_cmp (a.numerator * max b.denominator 1) (b.numerator * max a.denominator 1)

-- Fractions go by value. In lowest terms those of one value are one, so that their two numbers decide nothing more.
abbrev pub fraction_cmp : Fraction → Fraction → Ordering
fraction_cmp =
    then_cmp value_cmp (then_cmp (on (λ f. f.numerator) nat_cmp) (on (λ f. f.denominator) nat_cmp))

-- Counts rise, and none, which is without end, comes last.
abbrev pub count_cmp : Option ℕ → Option ℕ → Ordering
count_cmp = then_cmp (on is_none bool_cmp) (on (λ c. unwrap_or c 0) nat_cmp)

-- Runs of one place go by the base, not drop before drop, by how many timecodes go by in a unit, and by how much of the
-- first number has gone by.
abbrev pub step_cmp : RunParts → RunParts → Ordering
step_cmp =
    then_cmp (on (λ r. r.base) nat_cmp)
    (then_cmp (on (λ r. r.is_drop) bool_cmp)
    (then_cmp (on (λ r. r.step) fraction_cmp) (on (λ r. r.passed) nat_cmp)))

-- Runs go by the IndexSID, then by first position, number there and count, and then so.
abbrev pub run_cmp : RunParts → RunParts → Ordering
run_cmp =
    then_cmp (on (λ r. r.index_sid) nat_cmp)
    (then_cmp (on (λ r. r.position) nat_cmp)
    (then_cmp (on (λ r. r.number) nat_cmp)
    (then_cmp (on (λ r. r.count) count_cmp) step_cmp)))
