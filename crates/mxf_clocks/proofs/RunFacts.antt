-- What a run says of the positions that it was made of.
use Rattle.mxf_views.proofs.Common.{◌≡◌, ◌∙◌, ◌&&◌, ◌+◌, ◌-◌, ◌*◌, ◌/◌, ◌%◌, ◌<◌, ◌≤◌, ◌⊎◌, ℕ, ℤ, pos, negsuc}
use Rattle.mxf_views.proofs.Common.{true, false, cond, not, nat_le, nat_lt, refl, sym, ap, arith, inl, inr}
use Rattle.mxf_views.proofs.Common.{Option, Some, None, IfSome, option_map_or, and_from, and_parts, leb-true, le-leb}
use Rattle.mxf_views.proofs.Common.{ltb-true, lt-ltb, ne_eqb, greatest_unit}
use Rattle.std.specs.Prelude.{◌+ℤ◌, ◌≤ℤ◌}
use Rattle.std.proofs.lemmas.Int.{ints}
use Rattle.std.proofs.lemmas.Option.{cond_some}
use Rattle.mxf_tracks.specs.Timecodes.{labels_of_day, number_in_day}
use Rattle.mxf_clocks.specs.declared.clock_track.ClockTrack.{ClockTrack}
use Rattle.mxf_clocks.specs.declared.fraction.Fraction.{Fraction}
use Rattle.mxf_clocks.specs.Runs.{RunParts, below_zero, clock_number, from_zero, has_position, is_none_left, number_after}
use Rattle.mxf_clocks.specs.Runs.{number_at, run_at, run_from, without}
use Rattle.mxf_clocks.specs.Shown.{IsBehind}
use Rattle.mxf_clocks.proofs.MomentLaws.{day_more, in_two}

-- ---- where the first position lies

-- At 0 or above it, or below it.
ends : (first : ℤ) → (below_zero first ≡ 0) ⊎ (from_zero first ≡ 0)
ends (pos p) = inl refl
ends (negsuc p) = inr refl

behind-at : (first : ℤ) (units position : ℕ) → pos position ≡ first +ℤ pos units
    → position + below_zero first ≡ from_zero first + units
behind-at (pos p) units position e = omega (arith, ints, e)
behind-at (negsuc p) units position e = omega (arith, ints, e)

at-behind : (first : ℤ) (units position : ℕ) → position + below_zero first ≡ from_zero first + units
    → from_zero first ≤ position → pos position ≡ first +ℤ pos units
at-behind (pos p) units position e le = omega (arith, ints, e, le)
at-behind (negsuc p) units position e le = omega (arith, ints, e, le)

up_to-greatest : (first : ℤ) → first ≤ℤ pos greatest_unit → from_zero first ≤ greatest_unit
up_to-greatest (pos p) h = omega (arith, ints, h)
up_to-greatest (negsuc p) h = omega arith

greatest-up_to : (first : ℤ) → from_zero first ≤ greatest_unit → first ≤ℤ pos greatest_unit
greatest-up_to (pos p) h = omega (arith, ints, h)
greatest-up_to (negsuc p) h = omega (arith, ints)

-- ---- numbers

-- The number of a clock that goes on from one moment to another.
pub number-is : (index_sid : ℕ) (c : ClockTrack) (step : Fraction) (position start units : ℕ) (count : Option ℕ)
    → 0 < labels_of_day c.base c.is_drop → 0 < step.denominator
    → number_after (run_at index_sid c step position start count) units
    ≡ clock_number c ((start + units) * step.numerator / step.denominator)
number-is index_sid c step position start units count some parts =
    let n = step.numerator in
    let m = step.denominator in
    let a = start * n / m in
    let b = (start * n % m + units * n) / m in
    let sum : (c.start +ℤ pos a) +ℤ pos b ≡ c.start +ℤ pos (a + b) = omega (arith, ints) in
    let two : (start + units) * n / m ≡ a + b =
    ap (λ x. x / m) (let e : (start + units) * n ≡ 0 + (start * n + units * n) = omega arith in e)
    ∙ in_two 0 (start * n) (units * n) m parts
    ∙ ap (λ x. x / m + (x % m + units * n) / m) (let e : 0 + start * n ≡ start * n = omega arith in e) in
    day_more (c.start +ℤ pos a) b (labels_of_day c.base c.is_drop) some
    ∙ ap (λ z. number_in_day z c.base c.is_drop) sum ∙ sym (ap (clock_number c) two)

-- ---- from the positions to the run

some_left : (count : Option ℕ) (lost units : ℕ) → lost ≤ units → IfSome count (λ k. units < k)
    → is_none_left (without lost count) ≡ false
some_left None lost units le h = refl
some_left (Some k) lost units le h = ne_eqb (k - lost) 0 (λ e. omega (arith, h, le, e))

counted : (count : Option ℕ) (lost units d : ℕ) → d + lost ≡ units → IfSome count (λ k. units < k)
    → option_map_or (λ c. nat_lt d c) (without lost count) true ≡ true
counted None lost units d e h = refl
counted (Some k) lost units d e h = lt-ltb d (k - lost) (omega (arith, e, h))

-- The run that has a position, and the number that it tells.
pub record HasRunAt (index_sid : ℕ) (c : ClockTrack) (step : Fraction) (first : ℤ) (start : ℕ) (count : Option ℕ)
    (position units : ℕ) : Type 0 where
  pub run : RunParts
  pub made : run_from index_sid c step first start count ≡ Some run
  pub index : run.index_sid ≡ index_sid
  pub tells : number_at run position ≡ Some (clock_number c ((start + units) * step.numerator / step.denominator))

pub has_run : (index_sid : ℕ) (c : ClockTrack) (step : Fraction) (first : ℤ) (start : ℕ) (count : Option ℕ)
    (position units : ℕ) → 0 < labels_of_day c.base c.is_drop → 0 < step.denominator → IsBehind first units position
    → IfSome count (λ k. units < k) → HasRunAt index_sid c step first start count position units
unfolding run_from
has_run index_sid c step first start count position units labels parts behind within =
    let lost = below_zero first in
    let at = from_zero first in
    let there = behind-at first units position behind.there in
    let le : lost ≤ units = elim (ends first) [ inl e ↦ omega (arith, e) | inr e ↦ omega (arith, e, there) ] in
    let from : at ≤ position = elim (ends first) [ inl e ↦ omega (arith, e, there) | inr e ↦ omega (arith, e) ] in
    let left = without lost count in
    let test : (nat_le at greatest_unit && not (is_none_left left)) ≡ true =
    and_from (nat_le at greatest_unit) (not (is_none_left left))
    (le-leb at greatest_unit (up_to-greatest first behind.greatest))
    (ap not (some_left count lost units le within)) in
    let r = run_at index_sid c step at (start + lost) left in
    let d = position - at in
    let moved : d + lost ≡ units = omega (arith, there, from) in
    let has : has_position r position ≡ true =
    and_from (nat_le at position) (option_map_or (λ c. nat_lt d c) left true) (le-leb at position from)
    (counted count lost units d moved within) in
    let sum : (start + lost) + d ≡ start + units = omega (arith, moved) in
    record {
      run = r;
      made = ap (λ t. cond t (Some r) None) test;
      index = refl;
      tells = ap (λ t. cond t (Some (number_after r d)) None) has
          ∙ ap (λ x. Some x) (number-is index_sid c step at (start + lost) d left labels parts
          ∙ ap (λ x. clock_number c (x * step.numerator / step.denominator)) sum);
    }

-- ---- from the run to the positions

within_count : (count : Option ℕ) (lost units d : ℕ) → d + lost ≡ units
    → option_map_or (λ c. nat_lt d c) (without lost count) true ≡ true → IfSome count (λ k. units < k)
within_count None lost units d e h = tt
within_count (Some k) lost units d e h = let l = ltb-true d (k - lost) h in omega (arith, l, e)

-- What a run tells of a position.
pub record IsOfRun (index_sid : ℕ) (c : ClockTrack) (step : Fraction) (first : ℤ) (start : ℕ) (count : Option ℕ)
    (r : RunParts) (position number : ℕ) : Type 0 where
  pub units : ℕ
  pub index : r.index_sid ≡ index_sid
  pub behind : IsBehind first units position
  pub within : IfSome count (λ k. units < k)
  pub number_is : number ≡ clock_number c ((start + units) * step.numerator / step.denominator)

pub of_run : (index_sid : ℕ) (c : ClockTrack) (step : Fraction) (first : ℤ) (start : ℕ) (count : Option ℕ)
    (r : RunParts) (position number : ℕ) → 0 < labels_of_day c.base c.is_drop → 0 < step.denominator
    → run_from index_sid c step first start count ≡ Some r → number_at r position ≡ Some number
    → IsOfRun index_sid c step first start count r position number
unfolding run_from
of_run index_sid c step first start count r position number labels parts made told =
    let lost = below_zero first in
    let at = from_zero first in
    let left = without lost count in
    let run = run_at index_sid c step at (start + lost) left in
    let m = cond_some (nat_le at greatest_unit && not (is_none_left left)) run r made in
    let tests = and_parts (nat_le at greatest_unit) (not (is_none_left left)) m.0 in
    let told_of : number_at run position ≡ Some number = ap (λ x. number_at x position) m.1 ∙ told in
    let d = position - at in
    let n = cond_some (has_position run position) (number_after run d) number told_of in
    let has = and_parts (nat_le at position) (option_map_or (λ c. nat_lt d c) left true) n.0 in
    let from = leb-true at position has.0 in
    let units = d + lost in
    let sum : (start + lost) + d ≡ start + units = omega arith in
    record {
      units = units;
      index = ap (λ x. x.index_sid) (sym m.1);
      behind = record {
        greatest = greatest-up_to first (leb-true at greatest_unit tests.0);
        there = at-behind first units position (omega (arith, from)) from;
      };
      within = within_count count lost units d refl has.1;
      number_is = sym n.1 ∙ number-is index_sid c step at (start + lost) d left labels parts
          ∙ ap (λ x. clock_number c (x * step.numerator / step.denominator)) sum;
    }
