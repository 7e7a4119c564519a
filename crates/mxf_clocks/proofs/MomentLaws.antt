-- How the numbers of clocks go on.
use Rattle.mxf_views.proofs.Common.{◌^◌, ◌≡◌, ◌∙◌, ◌+◌, ◌-◌, ◌*◌, ◌/◌, ◌%◌, ◌<◌, ◌≤◌, ℕ, ℤ, suc, pos, negsuc, refl, sym}
use Rattle.mxf_views.proofs.Common.{ap, arith, unsigned_abs, Bool, true, false}
use Rattle.std.specs.Prelude.{◌+ℤ◌}
use Rattle.std.specs.Int.{int_rem_euclid}
use Rattle.std.proofs.lemmas.Int.{int_rem_euclid_is, ints}
use Rattle.std.proofs.lemmas.Nat.{mul-mod}
use Rattle.std.proofs.Math.Nat.{le-mul_of_pos_right, add-mod-mod, mod-add-mod, div-add-mod', add-mul-div_right, add-mul-mod_self_right}
use Rattle.mxf_tracks.specs.Timecodes.{labels_of_day, number_in_day}
use Rattle.mxf_clocks.specs.declared.clock_track.ClockTrack.{ClockTrack}
use Rattle.mxf_clocks.specs.declared.fraction.Fraction.{Fraction}
use Rattle.mxf_clocks.specs.declared.run.Moment.{Moment}
use Rattle.mxf_clocks.specs.Moments.{moment_of, moved}

-- Of a number and so many wholes of parts the quotient and the rest.
pub parts_quotient : (passed units n m : ℕ) → 0 < m
    → (passed + units * n) / m ≡ (passed + units % m * n) / m + units / m * n
parts_quotient passed units n m some =
    let split = div-add-mod' units m in
    let all : passed + units * n ≡ (passed + units % m * n) + units / m * n * m =
    omega (arith, ap (λ u. u * n) split) in
    ap (λ x. x / m) all ∙ add-mul-div_right (passed + units % m * n) (units / m * n) some

pub parts_rest : (passed units n m : ℕ) → (passed + units * n) % m ≡ (passed + units % m * n) % m
parts_rest passed units n m =
    let split = div-add-mod' units m in
    let all : passed + units * n ≡ (passed + units % m * n) + units / m * n * m =
    omega (arith, ap (λ u. u * n) split) in
    ap (λ x. x % m) all ∙ add-mul-mod_self_right (passed + units % m * n) (units / m * n) m

-- The number of whole timecodes modulo a day.
pub whole_numbers : (number q n rest labels : ℕ)
    → (number + (q % labels) * (n % labels) + rest) % labels ≡ (number + (rest + q * n)) % labels
whole_numbers number q n rest labels =
    let a : number + (q % labels) * (n % labels) + rest ≡ (number + rest) + (q % labels) * (n % labels) = omega arith in
    let b : number + (rest + q * n) ≡ (number + rest) + q * n = omega arith in
    ap (λ x. x % labels) a ∙ sym (add-mod-mod (number + rest) ((q % labels) * (n % labels)) labels)
    ∙ ap (λ x. ((number + rest) + x) % labels) (sym (mul-mod q n labels))
    ∙ add-mod-mod (number + rest) (q * n) labels ∙ ap (λ x. x % labels) (sym b)

-- What has gone by in two parts has gone by in one.
pub in_two : (passed a b m : ℕ) → 0 < m → (passed + (a + b)) / m ≡ (passed + a) / m + ((passed + a) % m + b) / m
in_two passed a b m some =
    let split = div-add-mod' (passed + a) m in
    let all : passed + (a + b) ≡ ((passed + a) % m + b) + (passed + a) / m * m = omega (arith, split) in
    ap (λ x. x / m) all ∙ add-mul-div_right ((passed + a) % m + b) ((passed + a) / m) some ∙ omega arith

pub rest_in_two : (passed a b m : ℕ) → (passed + (a + b)) % m ≡ ((passed + a) % m + b) % m
rest_in_two passed a b m =
    let e : passed + (a + b) ≡ (passed + a) + b = omega arith in
    ap (λ x. x % m) e ∙ sym (mod-add-mod (passed + a) m b)

-- Two moves are one.
pub moved_twice : (labels : ℕ) (step : Fraction) (at : Moment) (x y : ℕ) → 0 < step.denominator
    → moved labels step (moved labels step at x) y ≡ moved labels step at (x + y)
moved_twice labels step at x y some =
    let n = step.numerator in
    let m = step.denominator in
    let p = at.passed in
    let sum : p + (x + y) * n ≡ p + (x * n + y * n) = omega arith in
    let first = (p + x * n) / m in
    let then = ((p + x * n) % m + y * n) / m in
    let number : ((at.number + first) % labels + then) % labels ≡ (at.number + (p + (x + y) * n) / m) % labels =
    mod-add-mod (at.number + first) labels then
    ∙ ap (λ z. z % labels) (let e : (at.number + first) + then ≡ at.number + (first + then) = omega arith in e)
    ∙ ap (λ z. (at.number + z) % labels) (sym (in_two p (x * n) (y * n) m some))
    ∙ ap (λ z. (at.number + z / m) % labels) (sym sum) in
    let passed : ((p + x * n) % m + y * n) % m ≡ (p + (x + y) * n) % m =
    sym (rest_in_two p (x * n) (y * n) m) ∙ ap (λ z. z % m) (sym sum) in
    λ i. record { number = number i; passed = passed i }

-- An integer is a natural number but for days.
record IsNaturalBy (z : ℤ) (labels : ℕ) : Type 0 where
  days : ℕ
  natural : ℕ
  same : z +ℤ pos (days * labels) ≡ pos natural

natural_by : (z : ℤ) (labels : ℕ) → 0 < labels → IsNaturalBy z labels
natural_by (pos a) labels some = record { days = 0; natural = a; same = omega (arith, ints) }
natural_by (negsuc a) labels some =
    let enough : suc a ≤ suc a * labels = le-mul_of_pos_right (suc a) some in
    record { days = suc a; natural = suc a * labels - suc a; same = omega (arith, ints) }

-- The number within the day, so many timecodes later.
pub day_more : (z : ℤ) (k labels : ℕ) → 0 < labels
    → (unsigned_abs (int_rem_euclid z (pos labels)) + k) % labels
    ≡ unsigned_abs (int_rem_euclid (z +ℤ pos k) (pos labels))
day_more z k labels some =
    let w = natural_by z labels some in
    let more : (z +ℤ pos k) +ℤ pos (w.days * labels) ≡ pos (w.natural + k) = omega (arith, ints, w.same) in
    ap (λ u. (unsigned_abs u + k) % labels) (int_rem_euclid_is z (pos labels) labels w.days w.natural some refl w.same)
    ∙ mod-add-mod w.natural labels k
    ∙ sym (ap unsigned_abs (int_rem_euclid_is (z +ℤ pos k) (pos labels) labels w.days (w.natural + k) some refl more))

-- What the code makes of a moment and units.
pub moved-is : (labels : ℕ) (step : Fraction) (at : Moment) (units p n l a b : ℕ) → p ≡ step.denominator
    → n ≡ step.numerator → l ≡ labels → a ≡ at.passed → b ≡ at.number → 0 < step.denominator
    → ◌≡◌ {A = Moment} (record {
      number = (b + units / p % l * (n % l) + (a + units % p * n) / p) % l;
      passed = (a + units % p * n) % p;
    }) (moved labels step at units)
moved-is labels step at units p n l a b ep en el ea eb some =
    let d = step.denominator in
    let k = step.numerator in
    let number : (at.number + units / d % labels * (k % labels) + (at.passed + units % d * k) / d) % labels
    ≡ (at.number + (at.passed + units * k) / d) % labels =
    whole_numbers at.number (units / d) k ((at.passed + units % d * k) / d) labels
    ∙ ap (λ x. (at.number + x) % labels) (sym (parts_quotient at.passed units k d some)) in
    let passed : (at.passed + units % d * k) % d ≡ (at.passed + units * k) % d =
    sym (parts_rest at.passed units k d) in
    let first : (b + units / p % l * (n % l) + (a + units % p * n) / p) % l
    ≡ (at.number + units / d % labels * (k % labels) + (at.passed + units % d * k) / d) % labels =
    (λ i. (eb i + units / ep i % el i * (en i % el i) + (ea i + units % ep i * en i) / ep i) % el i) in
    let second : (a + units % p * n) % p ≡ (at.passed + units % d * k) % d =
    (λ i. (ea i + units % ep i * en i) % ep i) in
    let whole = first ∙ number in
    let rest = second ∙ passed in
    λ i. record { number = whole i; passed = rest i }

-- Where a clock stands that was moved from its start twice.
pub from_start : (c : ClockTrack) (step : Fraction) (start more : ℕ) → 0 < labels_of_day c.base c.is_drop
    → 0 < step.denominator
    → moved (labels_of_day c.base c.is_drop) step (moved (labels_of_day c.base c.is_drop) step
    (record { number = number_in_day c.start c.base c.is_drop; passed = 0 }) start) more
    ≡ moment_of c step (start + more)
from_start c step start more some parts =
    let labels = labels_of_day c.base c.is_drop in
    let n = (start + more) * step.numerator in
    let d = step.denominator in
    let zero_more : 0 + n ≡ n = omega arith in
    let number : (number_in_day c.start c.base c.is_drop + (0 + n) / d) % labels
    ≡ number_in_day (c.start +ℤ pos (n / d)) c.base c.is_drop =
    ap (λ x. (number_in_day c.start c.base c.is_drop + x / d) % labels) zero_more
    ∙ day_more c.start (n / d) labels some in
    let passed : (0 + n) % d ≡ n % d = ap (λ x. x % d) zero_more in
    moved_twice labels step (record { number = number_in_day c.start c.base c.is_drop; passed = 0 }) start more parts
    ∙ (λ i. record { number = number i; passed = passed i })

-- A day of a base above 0 has labels.
pub labels_some : (base : ℕ) (is_drop : Bool) → 0 < base → 0 < labels_of_day base is_drop
labels_some base true h = omega (arith, h)
labels_some base false h = omega (arith, h)

-- It has few of them.
pub labels_few : (base : ℕ) (is_drop : Bool) → base < 2 ^ 16 → labels_of_day base is_drop < 2 ^ 33
labels_few base true h = omega (arith, h)
labels_few base false h = omega (arith, h)
