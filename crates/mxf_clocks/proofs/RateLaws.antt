-- Rates, and how many timecodes go by in units.
use Rattle.mxf_views.proofs.Common.{◌≡◌, ◌∙◌, ◌↔◌, ◌+◌, ◌*◌, ◌/◌, ◌<◌, ◌≤◌, ℕ, ℤ, pos, negsuc}
use Rattle.mxf_views.proofs.Common.{true, sym, ap, subst, arith, and_parts, ltb-true, unsigned_abs, Option}
use Rattle.mxf_views.proofs.Common.{Some, None, IfSome, inl, inr, cases_lt}
use Rattle.std.specs.Prelude.{int_lt}
use Rattle.std.proofs.Math.Nat.{mul-pos, div-mul-le_self, lt-div-mul-add, le-div_iff_mul-le, div-lt_iff_lt-mul}
use Rattle.mxf_sets.specs.Rate.{is_good}
use Rattle.mxf_sets.specs.declared.record.rate.Rate.{Rate}
use Rattle.mxf_clocks.specs.declared.clock_track.ClockTrack.{ClockTrack}
use Rattle.mxf_clocks.specs.Fractions.{greatest_divisor, lesser, rate_over, units_left}
use Rattle.mxf_clocks.specs.Runs.{clock_number}
use Rattle.mxf_clocks.specs.Shown.{IsLonger, IsNoLonger, IsWithin, StandsAt}
use Rattle.mxf_clocks.proofs.FractionLaws.{common-lt, multiples, some_part, within-is}

above : (z : ℤ) → int_lt (pos 0) z ≡ true → 0 < unsigned_abs z
above (pos n) e = ltb-true 0 n e
above (negsuc n) e = cc

-- Both numbers of a good rate are above 0.
pub good_parts : (r : Rate) → is_good r ≡ true → (0 < unsigned_abs r.numerator) × (0 < unsigned_abs r.denominator)
good_parts r e =
    let p = and_parts (int_lt (pos 0) r.numerator) (int_lt (pos 0) r.denominator) e in
    (above r.numerator p.0, above r.denominator p.1)

-- How many timecodes go by in a unit, times what both are multiples of, is by the rates as they are stored.
pub record IsOver (a b : Rate) : Type 0 where
  pub divisor : ℕ
  pub some : 0 < divisor
  pub upper : (rate_over a b).numerator * divisor ≡ unsigned_abs a.numerator * unsigned_abs b.denominator
  pub lower : (rate_over a b).denominator * divisor ≡ unsigned_abs a.denominator * unsigned_abs b.numerator
  pub numerator : 0 < (rate_over a b).numerator
  pub denominator : 0 < (rate_over a b).denominator

pub over : (a b : Rate) → is_good a ≡ true → is_good b ≡ true → IsOver a b
over a b good_a good_b =
    let p = good_parts a good_a in
    let q = good_parts b good_b in
    let x = unsigned_abs a.numerator * unsigned_abs b.denominator in
    let y = unsigned_abs a.denominator * unsigned_abs b.numerator in
    let some_x : 0 < x = mul-pos p.0 q.1 in
    let some_y : 0 < y = mul-pos p.1 q.0 in
    let m = multiples x y some_x in
    let g = greatest_divisor x y in
    record {
      divisor = g;
      some = m.some;
      upper = m.first;
      lower = m.second;
      numerator = some_part x g (x / g) some_x m.first;
      denominator = some_part y g (y / g) some_y m.second;
    }

-- ---- durations

-- More timecodes than go by in the units.
pub longer-is : (a b : Rate) → IsOver a b → (timecodes units : ℕ)
    → IsLonger a timecodes b units ↔ (units * (rate_over a b).numerator < timecodes * (rate_over a b).denominator)
longer-is a b o timecodes units =
    let step = rate_over a b in
    let left : units * step.numerator * o.divisor ≡ units * (unsigned_abs a.numerator * unsigned_abs b.denominator) =
    (let e : units * step.numerator * o.divisor ≡ units * (step.numerator * o.divisor) = omega arith in e)
    ∙ ap (λ x. units * x) o.upper in
    let right : timecodes * step.denominator * o.divisor
    ≡ timecodes * (unsigned_abs a.denominator * unsigned_abs b.numerator) =
    (let e : timecodes * step.denominator * o.divisor ≡ timecodes * (step.denominator * o.divisor) = omega arith in e)
    ∙ ap (λ x. timecodes * x) o.lower in
    let c = common-lt (units * step.numerator) (timecodes * step.denominator) o.divisor o.some in (
      λ h. c.0 (subst (λ x. x < timecodes * step.denominator * o.divisor) (sym left)
          (subst (λ x. units * (unsigned_abs a.numerator * unsigned_abs b.denominator) < x) (sym right) h)),
      λ h. subst (λ x. x < timecodes * (unsigned_abs a.denominator * unsigned_abs b.numerator)) left
          (subst (λ x. units * step.numerator * o.divisor < x) right (c.1 h)),
    )

-- A count of units that are left of a duration.
pub left-is : (c : ClockTrack) (b : Rate) → IsOver c.rate b → (start units : ℕ)
    → IfSome (units_left (rate_over c.rate b) start c.duration) (λ k. units < k) ↔ IsWithin c b (start + units)
left-is c b o start units = by_duration c.duration
  where
    by_duration : (d : Option ℕ) → IfSome (units_left (rate_over c.rate b) start d) (λ k. units < k)
        ↔ IfSome d (λ d. IsLonger c.rate d b (start + units))
    by_duration None = (λ h. tt, λ h. tt)
    by_duration (Some d) =
        let step = rate_over c.rate b in
        let w = within-is step d (start + units) o.numerator in
        let l = longer-is c.rate b o d (start + units) in (
          λ h. l.1 (w.0 (omega (arith, h))),
          λ h. let k = w.1 (l.0 h) in omega (arith, k),
        )

-- The lesser of two counts.
pub lesser-is : (a b : Option ℕ) (units : ℕ)
    → IfSome (lesser a b) (λ k. units < k) ↔ (IfSome a (λ k. units < k) × IfSome b (λ k. units < k))
lesser-is None None u = (λ h. (tt, tt), λ h. tt)
lesser-is None (Some b) u = (λ h. (tt, h), λ h. h.1)
lesser-is (Some a) None u = (λ h. (h, tt), λ h. h.0)
lesser-is (Some a) (Some b) u = (λ h. (omega (arith, h), omega (arith, h)), λ h. omega (arith, h.0, h.1))

-- ---- numbers

-- The clock stands at the number that so many whole timecodes make.
pub stands-is : (c : ClockTrack) (b : Rate) → IsOver c.rate b → (units number : ℕ)
    → StandsAt c b units number ↔ (number ≡ clock_number c (units * (rate_over c.rate b).numerator
    / (rate_over c.rate b).denominator))
stands-is c b o units number =
    let step = rate_over c.rate b in
    let n = units * step.numerator in
    let m = step.denominator in (
      λ h.
          let above = (longer-is c.rate b o (h.timecodes + 1) units).0 h.last in
          let upto = no_longer c.rate b o h.timecodes units h.gone in
          let least : h.timecodes ≤ n / m = (le-div_iff_mul-le {k = m} o.denominator).1 upto in
          let most : n / m < h.timecodes + 1 = (div-lt_iff_lt-mul {k = m} o.denominator).1 above in
          let same : h.timecodes ≡ n / m = omega (arith, least, most) in
          h.there ∙ ap (clock_number c) same,
      λ e. record {
        timecodes = n / m;
        gone = longer_not c.rate b o (n / m) units (div-mul-le_self n m);
        last = (longer-is c.rate b o (n / m + 1) units).1
            (let l = lt-div-mul-add {a = n} {b = m} o.denominator in omega (arith, l));
        there = e;
      },
    )
  where
    no_longer : (a b : Rate) → IsOver a b → (timecodes units : ℕ) → IsNoLonger a timecodes b units
        → timecodes * (rate_over a b).denominator ≤ units * (rate_over a b).numerator
    no_longer a b o timecodes units h =
        let step = rate_over a b in
        elim (cases_lt (units * step.numerator) (timecodes * step.denominator)) [
          | inl l ↦ absurd (let k = (longer-is a b o timecodes units).1 l in omega (arith, h, k))
          | inr l ↦ l
        ]

    longer_not : (a b : Rate) → IsOver a b → (timecodes units : ℕ)
        → timecodes * (rate_over a b).denominator ≤ units * (rate_over a b).numerator → IsNoLonger a timecodes b units
    longer_not a b o timecodes units h =
        elim (cases_lt (units * (unsigned_abs a.numerator * unsigned_abs b.denominator))
        (timecodes * (unsigned_abs a.denominator * unsigned_abs b.numerator))) [
          | inl l ↦ absurd (let k = (longer-is a b o timecodes units).0 l in omega (arith, h, k))
          | inr l ↦ l
        ]
