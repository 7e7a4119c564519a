-- The order of runs is a total order, and runs that compare alike are one (this project's profile).
use Rattle.std.specs.Prelude.{◌≡◌, ◌*◌, ◌<◌, ◌==◌, cond, max, true, false, ℕ, is_none, unwrap_or, Some, None}
use Rattle.std.specs.Ordering.{bool_cmp, eq_by_cmp, nat_cmp}
use Rattle.std.specs.Cmp.{IsTotalOrder, IsEquivalence, bool_cmp_total}
use Rattle.std.specs.FinSet.{IsAntisymmetric, nat_cmp-IsAntisymmetric}
use Rattle.std.specs.declared.cmp.Ordering.TheVariants.{Less, Equal, Greater}
use Rattle.std.proofs.Common.{refl, sym, ◌∙◌, ap, arith, inl, inr}
use Rattle.std.proofs.Math.Nat.{mul-lt-mul_of_pos_right}
use Rattle.std.proofs.lemmas.Bool.{cases_order, le-ltb, lt-ltb, ne_eqb}
use Rattle.std.proofs.lemmas.Cmp.{tied_itself, on_total, then_total, nat_cmp_total, eq_by_cmp_equiv}
use Rattle.mxf_klv.specs.NoteOrder.{ties}
use Rattle.mxf_clocks.specs.declared.fraction.Fraction.{Fraction}
use Rattle.mxf_clocks.specs.RunOrder.{count_cmp, fraction_cmp, run_cmp, value_cmp}

bool_cmp-IsAntisymmetric : IsAntisymmetric bool_cmp
bool_cmp-IsAntisymmetric true true e = refl
bool_cmp-IsAntisymmetric true false e = cc
bool_cmp-IsAntisymmetric false true e = cc
bool_cmp-IsAntisymmetric false false e = refl

less : (x y : ℕ) → x < y → nat_cmp x y ≡ Less
less x y h = ap (λ t. cond t Less (cond (x == y) Equal Greater)) (lt-ltb x y h)

greater : (x y : ℕ) → y < x → nat_cmp x y ≡ Greater
greater x y h =
    ap (λ t. cond t Less (cond (x == y) Equal Greater)) (le-ltb x y (omega (arith, h)))
    ∙ ap (λ t. cond t Equal Greater) (ne_eqb x y (λ e. omega (arith, h, e)))

-- Numbers stand as they do when both are multiplied.
scaled : (x y k : ℕ) → 0 < k → nat_cmp (x * k) (y * k) ≡ nat_cmp x y
scaled x y k h = elim (cases_order x y) [
  | inl e ↦
      ap (λ n. nat_cmp (n * k) (y * k)) e ∙ tied_itself nat_cmp_total (y * k)
      ∙ sym (ap (λ n. nat_cmp n y) e ∙ tied_itself nat_cmp_total y)
  | inr (inl l) ↦ less (x * k) (y * k) (mul-lt-mul_of_pos_right l h) ∙ sym (less x y l)
  | inr (inr g) ↦ greater (x * k) (y * k) (mul-lt-mul_of_pos_right g h) ∙ sym (greater x y g)
]

-- Products of which one is moved on by a third factor.
turned : (a b c : ℕ) → a * b * c ≡ a * c * b
turned a b c = omega arith

weight : (f : Fraction) → 0 < max f.denominator 1
weight f = omega arith

value_trans : (x y z : Fraction) → value_cmp x y ≡ Less → value_cmp y z ≡ Less → value_cmp x z ≡ Less
value_trans x y z e f =
    let a = x.numerator in let b = y.numerator in let c = z.numerator in
    let α = max x.denominator 1 in let β = max y.denominator 1 in let γ = max z.denominator 1 in
    let first : nat_cmp (a * γ * β) (b * γ * α) ≡ Less =
    ap (λ n. nat_cmp n (b * γ * α)) (turned a γ β) ∙ ap (nat_cmp (a * β * γ)) (turned b γ α)
    ∙ scaled (a * β) (b * α) γ (weight z) ∙ e in
    let second : nat_cmp (b * γ * α) (c * α * β) ≡ Less =
    ap (nat_cmp (b * γ * α)) (turned c α β) ∙ scaled (b * γ) (c * β) α (weight x) ∙ f in
    sym (scaled (a * γ) (c * α) β (weight y))
    ∙ nat_cmp_total.trans (a * γ * β) (b * γ * α) (c * α * β) first second

value_congr : (x y z : Fraction) → value_cmp x y ≡ Equal → value_cmp x z ≡ value_cmp y z
value_congr x y z e =
    let a = x.numerator in let b = y.numerator in let c = z.numerator in
    let α = max x.denominator 1 in let β = max y.denominator 1 in let γ = max z.denominator 1 in
    let same : a * γ * β ≡ b * γ * α =
    turned a γ β ∙ ap (λ n. n * γ) (nat_cmp-IsAntisymmetric (a * β) (b * α) e) ∙ turned b α γ in
    sym (scaled (a * γ) (c * α) β (weight y))
    ∙ ap (λ n. nat_cmp n (c * α * β)) same ∙ ap (nat_cmp (b * γ * α)) (turned c α β)
    ∙ scaled (b * γ) (c * β) α (weight x)

value_total : IsTotalOrder value_cmp
value_total = record {
  antisymm = λ x y.
      nat_cmp_total.antisymm (x.numerator * max y.denominator 1) (y.numerator * max x.denominator 1);
  trans = value_trans;
  congr = value_congr;
}

fraction_total : IsTotalOrder fraction_cmp
fraction_total =
    then_total value_total
    (then_total (on_total (λ f. f.numerator) nat_cmp_total) (on_total (λ f. f.denominator) nat_cmp_total))

fraction_cmp-IsAntisymmetric : IsAntisymmetric fraction_cmp
fraction_cmp-IsAntisymmetric a b e =
    let p = ties _ _ e in let q = ties _ _ p.1 in
    let n = nat_cmp-IsAntisymmetric a.numerator b.numerator q.0 in
    let d = nat_cmp-IsAntisymmetric a.denominator b.denominator q.1 in
    λ i. record { numerator = n i; denominator = d i }

count_total : IsTotalOrder count_cmp
count_total = then_total (on_total is_none bool_cmp_total) (on_total (λ c. unwrap_or c 0) nat_cmp_total)

count_cmp-IsAntisymmetric : IsAntisymmetric count_cmp
count_cmp-IsAntisymmetric None None e = refl
count_cmp-IsAntisymmetric None (Some b) e = cc
count_cmp-IsAntisymmetric (Some a) None e = cc
count_cmp-IsAntisymmetric (Some a) (Some b) e = ap (λ n. Some n) (nat_cmp-IsAntisymmetric a b e)

pub run_total : IsTotalOrder run_cmp
run_total =
    then_total (on_total (λ r. r.index_sid) nat_cmp_total)
    (then_total (on_total (λ r. r.position) nat_cmp_total)
    (then_total (on_total (λ r. r.number) nat_cmp_total)
    (then_total (on_total (λ r. r.count) count_total)
    (then_total (on_total (λ r. r.base) nat_cmp_total)
    (then_total (on_total (λ r. r.is_drop) bool_cmp_total)
    (then_total (on_total (λ r. r.step) fraction_total) (on_total (λ r. r.passed) nat_cmp_total)))))))

pub run_equiv : IsEquivalence (eq_by_cmp run_cmp)
run_equiv = eq_by_cmp_equiv run_total

-- Runs that compare alike are one.
pub run_cmp-IsAntisymmetric : IsAntisymmetric run_cmp
run_cmp-IsAntisymmetric a b e =
    let p = ties _ _ e in let q = ties _ _ p.1 in let r = ties _ _ q.1 in let s = ties _ _ r.1 in
    let t = ties _ _ s.1 in let u = ties _ _ t.1 in let v = ties _ _ u.1 in
    let sid = nat_cmp-IsAntisymmetric a.index_sid b.index_sid p.0 in
    let position = nat_cmp-IsAntisymmetric a.position b.position q.0 in
    let number = nat_cmp-IsAntisymmetric a.number b.number r.0 in
    let count = count_cmp-IsAntisymmetric a.count b.count s.0 in
    let base = nat_cmp-IsAntisymmetric a.base b.base t.0 in
    let drop = bool_cmp-IsAntisymmetric a.is_drop b.is_drop u.0 in
    let step = fraction_cmp-IsAntisymmetric a.step b.step v.0 in
    let passed = nat_cmp-IsAntisymmetric a.passed b.passed v.1 in
    λ i. record {
      index_sid = sid i;
      position = position i;
      count = count i;
      number = number i;
      base = base i;
      is_drop = drop i;
      step = step i;
      passed = passed i;
    }
