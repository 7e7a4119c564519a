-- How timecodes go by: with so much passed, so many parts in each unit, and so many parts in a timecode.
use Rattle.std.proofs.Common.{◌≡◌, ◌∙◌, ◌↔◌, ◌+◌, ◌-◌, ◌*◌, ◌/◌, ◌<◌, ◌≤◌, ◌^◌, ℕ, sym, ap, subst, arith, inl, inr}
use Rattle.std.proofs.lemmas.Bool.{cases_lt}
use Rattle.std.proofs.Math.Nat.{div-lt_iff_lt-mul, div-mul-le_self, div-zero, le-div_iff_mul-le, mul-le-mul}
use Rattle.std.proofs.Math.Nat.{mul-le-mul_right}

pub parts_le : (gone x d : ℕ) → gone ≤ x / d → gone * d ≤ x
parts_le gone x d h =
    let a : gone * d ≤ x / d * d = mul-le-mul_right d h in
    let b = div-mul-le_self x d in omega (arith, a, b)

pub some_parts : (gone x d : ℕ) → 0 < gone → gone ≤ x / d → 0 < d
some_parts gone x d some h = elim (cases_lt 0 d) [
  | inl some ↦ some
  | inr none ↦
      let zero : d ≡ 0 = omega (arith, none) in
      let nothing : x / d ≡ 0 = ap (λ d. x / d) zero ∙ div-zero x in
      absurd (omega (arith, nothing, some, h))
]

pub products : (a b : ℕ) → a < 2 ^ 64 → b < 2 ^ 64 → a * b + 2 ^ 65 ≤ 2 ^ 128 + 1
products a b x y =
    let first : a ≤ 2 ^ 64 - 1 = omega (arith, x) in
    let second : b ≤ 2 ^ 64 - 1 = omega (arith, y) in
    let le : a * b ≤ (2 ^ 64 - 1) * (2 ^ 64 - 1) = mul-le-mul first second in
    omega (arith, le)

-- Parts of so many timecodes that go by in so many units are few.
pub few_parts : (q n d most gone : ℕ) → q < 2 ^ 64 → n < 2 ^ 64 → most < 2 ^ 64 → gone ≤ (q + most * n) / d
    → gone * d < 2 ^ 128
few_parts q n d most gone a b c h =
    let le = parts_le gone (q + most * n) d h in
    let few = products most n c b in omega (arith, le, few, a)

some_factor : (a b : ℕ) → 0 < a * b → 0 < b
some_factor a b h = elim (cases_lt 0 b) [
  | inl some ↦ some
  | inr none ↦
      let zero : b ≡ 0 = omega (arith, none) in
      let nothing : a * b ≡ a * 0 = ap (λ b. a * b) zero in absurd (omega (arith, nothing, h))
]

pub last_later : (q n d gone : ℕ) → 0 < d → 0 < n → q < (gone + 1) * d → (u : ℕ)
    → ((q + u * n) / d ≤ gone) ↔ (u ≤ ((gone + 1) * d - 1 - q) / n)
last_later q n d gone some steps low u =
    let parts = div-lt_iff_lt-mul {k = d} {x = q + u * n} {y = gone + 1} some in
    let units = le-div_iff_mul-le {k = n} {x = u} {y = (gone + 1) * d - 1 - q} steps in (
      λ h. let lt = parts.0 (omega (arith, h)) in units.1 (omega (arith, lt, low)),
      λ h. let le = units.0 h in let lt = parts.1 (omega (arith, le, low)) in omega (arith, lt),
    )

-- What holds where more timecodes go by than are asked for.
pub record HasMore (q n d most gone : ℕ) : Type 0 where
  pub parts : 0 < d
  pub low : q < (gone + 1) * d
  pub upto : (gone + 1) * d ≤ q + most * n
  pub steps : 0 < n

pub has_more : (q n d most gone : ℕ) → (q + 0 * n) / d ≤ gone → gone < (q + most * n) / d → HasMore q n d most gone
has_more q n d most gone first more =
    let parts = some_parts (gone + 1) (q + most * n) d (omega arith) (omega (arith, more)) in
    let below = (div-lt_iff_lt-mul {k = d} {x = q + 0 * n} {y = gone + 1} parts).0 (omega (arith, first)) in
    let low : q < (gone + 1) * d = omega (arith, below) in
    let upto = parts_le (gone + 1) (q + most * n) d (omega (arith, more)) in
    record { parts = parts; low = low; upto = upto; steps = some_factor most n (omega (arith, low, upto)) }

pub last_within : (q n d most gone : ℕ) → HasMore q n d most gone → ((gone + 1) * d - 1 - q) / n ≤ most
last_within q n d most gone h =
    let low = h.low in
    let upto = h.upto in
    let lt = (div-lt_iff_lt-mul {k = n} {x = (gone + 1) * d - 1 - q} {y = most} h.steps).1 (omega (arith, low, upto)) in
    omega (arith, lt)

-- More units take no fewer timecodes.
pub rises : (q n d u v : ℕ) → u ≤ v → (q + u * n) / d ≤ (q + v * n) / d
rises q n d u v le = elim (cases_lt 0 d) [
  | inl some ↦
      let a = div-mul-le_self (q + u * n) d in
      let b : u * n ≤ v * n = mul-le-mul_right n le in
      (le-div_iff_mul-le {k = d} {x = (q + u * n) / d} {y = q + v * n} some).1 (omega (arith, a, b))
  | inr none ↦
      let zero : d ≡ 0 = omega (arith, none) in
      let a : (q + u * n) / d ≡ 0 = ap (λ d. (q + u * n) / d) zero ∙ div-zero (q + u * n) in
      omega (arith, a)
]

-- The last unit at which no more than so many timecodes have gone by.
pub record IsLast (q n d most gone last : ℕ) : Type 0 where
  pub within : last ≤ most
  pub each : (u : ℕ) → ((q + u * n) / d ≤ gone) ↔ (u ≤ last)

pub last_is : (q n d most gone more p m e : ℕ) → (q + 0 * n) / d ≤ gone → gone < more → more ≡ (q + most * n) / d
    → e ≡ d → p ≡ q → m ≡ n → IsLast q n d most gone (((gone + 1) * e - 1 - p) / m)
last_is q n d most gone more p m e first less is same_d same_q same_n =
    let h = has_more q n d most gone first (omega (arith, less, is)) in
    let same : ((gone + 1) * d - 1 - q) / n ≡ ((gone + 1) * e - 1 - p) / m =
    sym (λ i. ((gone + 1) * same_d i - 1 - same_q i) / same_n i) in
    subst (λ x. IsLast q n d most gone x) same (record {
      within = last_within q n d most gone h;
      each = last_later q n d gone h.parts h.steps h.low;
    })
