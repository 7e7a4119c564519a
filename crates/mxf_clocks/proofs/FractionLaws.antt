-- Greatest divisors, fractions in lowest terms, and durations that go over from one rate to another.
use Rattle.mxf_views.proofs.Common.{◌≡◌, ◌∙◌, ◌↔◌, ◌&&◌, ◌==◌, ◌+◌, ◌-◌, ◌*◌, ◌/◌, ◌%◌, ◌<◌, ◌≤◌, ℕ, zero, suc, Bool}
use Rattle.mxf_views.proofs.Common.{true, false, cond, refl, sym, ap, subst, inl, inr, arith, and_from, and_parts}
use Rattle.mxf_views.proofs.Common.{eq-eqb, eqb-true, cases_lt, true≢false}
use Rattle.std.specs.Int.{IsGcd}
use Rattle.std.proofs.lemmas.Nat.Gcd.{dvd_of_mod-eq-zero, le_from_IsGcd, le_of_dvd, mod-eq-zero_of_dvd}
use Rattle.std.proofs.Math.Nat.{div-add-mod', mod-one, mul-lt-mul_of_pos_right, lt_of_mul-lt-mul_right}
use Rattle.std.proofs.Math.Nat.{le-div_iff_mul-le}
use Rattle.mxf_clocks.specs.declared.fraction.Fraction.{Fraction}
use Rattle.mxf_clocks.specs.Fractions.{divisor_up_to, greatest_divisor, units_within}

abbrev divides : ℕ → ℕ → ℕ → Bool
divides a b d = (a % d == 0) && (b % d == 0)

-- A number that divides both is found, if none that does is greater.
up_to_is : (a b g n : ℕ) → g ≤ n → 0 < g → divides a b g ≡ true
    → ((d : ℕ) → 0 < d → divides a b d ≡ true → d ≤ g) → divisor_up_to a b n ≡ g
unfolding divisor_up_to
up_to_is a b g zero le some both most = absurd (omega arith)
up_to_is a b g (suc n) le some both most =
    elim (divides a b (suc n)) as (λ t. divides a b (suc n) ≡ t → cond t (suc n) (divisor_up_to a b n) ≡ g) [
      | true ↦ λ e. let m = most (suc n) (omega arith) e in omega arith
      | false ↦ λ e. elim (cases_lt n g) [
        | inl l ↦
            let same : g ≡ suc n = omega arith in
            absurd (true≢false (sym both ∙ ap (divides a b) same ∙ e))
        | inr l ↦ up_to_is a b g n l some both most
      ]
    ] refl

pub divisor_is : (a b g : ℕ) → 0 < a → 0 < g → IsGcd a b g → greatest_divisor a b ≡ g
unfolding greatest_divisor
divisor_is a b g some_a some_g gcd = up_to_is a b g a (le_of_dvd some_a gcd.0) some_g
    (and_from (a % g == 0) (b % g == 0) (eq-eqb (a % g) 0 (mod-eq-zero_of_dvd g gcd.0))
    (eq-eqb (b % g) 0 (mod-eq-zero_of_dvd g gcd.1))) (λ d some both.
    let p = and_parts (a % d == 0) (b % d == 0) both in
    le_from_IsGcd a b g d gcd some_g (dvd_of_mod-eq-zero d (eqb-true (a % d) 0 p.0))
    (dvd_of_mod-eq-zero d (eqb-true (b % d) 0 p.1)))

-- What is found divides both.
found_divides : (a b n : ℕ) → 1 ≤ n
    → (0 < divisor_up_to a b n) × (divides a b (divisor_up_to a b n) ≡ true)
unfolding divisor_up_to
found_divides a b zero le = absurd (omega arith)
found_divides a b (suc zero) le =
    let one : divides a b 1 ≡ true = and_from (a % 1 == 0) (b % 1 == 0) (eq-eqb (a % 1) 0 (mod-one a))
    (eq-eqb (b % 1) 0 (mod-one b)) in
    subst (λ t. (0 < cond t 1 0) × (divides a b (cond t 1 0) ≡ true)) (sym one) (omega arith, one)
found_divides a b (suc (suc n)) le =
    let d = suc (suc n) in
    elim (divides a b d) as (λ t. divides a b d ≡ t
    → (0 < cond t d (divisor_up_to a b (suc n))) × (divides a b (cond t d (divisor_up_to a b (suc n))) ≡ true)) [
      | true ↦ λ e. (omega arith, e)
      | false ↦ λ e. found_divides a b (suc n) (omega arith)
    ] refl

-- Both numbers are multiples of their greatest divisor.
pub record AreMultiples (a b g : ℕ) : Type 0 where
  pub some : 0 < g
  pub first : a / g * g ≡ a
  pub second : b / g * g ≡ b

whole : (a g : ℕ) → a % g ≡ 0 → a / g * g ≡ a
whole a g e = let p = div-add-mod' a g in omega (arith, p, e)

pub multiples : (a b : ℕ) → 0 < a → AreMultiples a b (greatest_divisor a b)
unfolding greatest_divisor
multiples a b some =
    let d = divisor_up_to a b a in
    let f = found_divides a b a some in
    let p = and_parts (a % d == 0) (b % d == 0) f.1 in
    record { some = f.0; first = whole a d (eqb-true (a % d) 0 p.0); second = whole b d (eqb-true (b % d) 0 p.1) }

-- A part of a number above 0 is above 0.
pub some_part : (a g n : ℕ) → 0 < a → n * g ≡ a → 0 < n
some_part a g zero some e = absurd (omega (arith, some, e))
some_part a g (suc n) some e = omega arith

-- A unit begins within a duration exactly if the timecodes that go by up to it are less.
pub within-is : (step : Fraction) (duration units : ℕ) → 0 < step.numerator
    → (units < units_within step duration) ↔ (units * step.numerator < duration * step.denominator)
within-is step duration units some =
    let n = step.numerator in
    let p = duration * step.denominator in
    let le = le-div_iff_mul-le {k = n} {x = suc units} {y = p + (n - 1)} some in
    let more : suc units * n ≡ units * n + n = omega arith in (
      λ h. let k = le.0 (omega arith) in omega (arith, k, more, some),
      λ h. let k = le.1 (omega (arith, more, some, h)) in omega arith,
    )

-- Products of which both sides have a common factor.
pub common-lt : (x y g : ℕ) → 0 < g → (x * g < y * g) ↔ (x < y)
common-lt x y g some = (λ h. lt_of_mul-lt-mul_right g h, λ h. mul-lt-mul_of_pos_right h some)
