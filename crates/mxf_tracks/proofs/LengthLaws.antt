-- Lengths in whole thousandths of a second.
use Rattle.std.proofs.Common.{◌≡◌, ◌∙◌, ◌↔◌, ◌+◌, ◌*◌, ◌/◌, ◌<◌, ◌≤◌, ◌<ℤ◌, ℕ, ℤ, pos, negsuc, true, cond, ap, subst, arith}
use Rattle.std.proofs.Common.{Some, None, int_lt, unsigned_abs}
use Rattle.std.proofs.Math.Nat.{div-lt_iff_lt-mul, div-mul-le_self, le-div_iff_mul-le, lt-div-mul-add}
use Rattle.std.proofs.lemmas.Option.{cond_some}
use Rattle.mxf_views.proofs.Common.{and_from, and_parts}
use Rattle.mxf_sets.specs.Rate.{is_good}
use Rattle.mxf_sets.specs.declared.record.rate.Rate.{Rate}
use Rattle.mxf_tracks.specs.Lengths.{IsLengthOf, length_of}

above-is : (z : ℤ) → (int_lt (pos 0) z ≡ true) ↔ (pos 0 <ℤ z)
above-is (pos n) = grind arith
above-is (negsuc n) = grind arith

some_of : (z : ℤ) → pos 0 <ℤ z → 0 < unsigned_abs z
some_of (pos n) h = grind arith
some_of (negsuc n) h = grind arith

pub length-is : (duration : ℕ) (rate : Rate) (thousandths : ℕ)
    → (length_of duration rate ≡ Some thousandths) ↔ IsLengthOf duration rate thousandths
length-is duration rate thousandths =
    let n = duration * unsigned_abs rate.denominator * 1000 in
    let m = unsigned_abs rate.numerator in (
      λ e.
          let p = cond_some (is_good rate) (n / m) thousandths e in
          let q = and_parts (int_lt (pos 0) rate.numerator) (int_lt (pos 0) rate.denominator) p.0 in
          let above = (above-is rate.numerator).0 q.0 in
          record {
            numerator = above;
            denominator = (above-is rate.denominator).0 q.1;
            no_longer = subst (λ x. x * m ≤ n) p.1 (div-mul-le_self n m);
            next_longer = subst (λ x. n < (x + 1) * m) p.1
                (let l = lt-div-mul-add {a = n} {b = m} (some_of rate.numerator above) in omega (arith, l));
          },
      λ r.
          let some = some_of rate.numerator r.numerator in
          let good : is_good rate ≡ true = and_from (int_lt (pos 0) rate.numerator) (int_lt (pos 0) rate.denominator)
          ((above-is rate.numerator).1 r.numerator) ((above-is rate.denominator).1 r.denominator) in
          let least : thousandths ≤ n / m = (le-div_iff_mul-le {k = m} some).1 r.no_longer in
          let most : n / m < thousandths + 1 = (div-lt_iff_lt-mul {k = m} some).1 r.next_longer in
          let same : n / m ≡ thousandths = omega (arith, least, most) in
          ap (λ b. cond b (Some (n / m)) None) good ∙ ap (λ x. Some x) same,
    )
