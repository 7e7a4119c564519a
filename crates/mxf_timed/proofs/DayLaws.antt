-- Numbers within a day.
use Rattle.std.proofs.Common.{◌≡◌, ◌∙◌, ◌+◌, ◌-◌, ◌*◌, ◌/◌, ◌%◌, ◌<◌, ◌≤◌, ℕ, sym, ap, arith, inl, inr}
use Rattle.std.proofs.lemmas.Bool.{cases_lt}
use Rattle.std.proofs.lemmas.Nat.{div-add-mod'}
use Rattle.std.proofs.Math.Nat.{add-mod_left, mod-add-mod, mod-eq_of_lt, mul-le-mul_right}

-- The first number with a place in the day, if that place lies later in it.
pub later_today : (number place day : ℕ) → place < day → number % day ≤ place
    → (number + (place - number % day)) % day ≡ place
later_today number place day low le =
    let all : number % day + (place - number % day) ≡ place = omega (arith, le) in
    sym (mod-add-mod number day (place - number % day)) ∙ ap (λ x. x % day) all ∙ mod-eq_of_lt low

-- And if it lies earlier.
pub tomorrow : (number place day : ℕ) → place < number % day → number % day < day
    → (number + (place + (day - number % day))) % day ≡ place
tomorrow number place day less low =
    let all : number % day + (place + (day - number % day)) ≡ day + place = omega (arith, low) in
    sym (mod-add-mod number day (place + (day - number % day))) ∙ ap (λ x. x % day) all ∙ add-mod_left day place
    ∙ mod-eq_of_lt (omega (arith, less, low))

quotients : (p q day : ℕ) → p < q → p * day + day ≤ q * day
quotients p q day less =
    let e : (p + 1) * day ≡ p * day + day = omega arith in
    let le : (p + 1) * day ≤ q * day = mul-le-mul_right day (omega (arith, less)) in
    omega (arith, e, le)

-- Of numbers with one place in the day none lie less than a day apart.
pub apart : (a b day : ℕ) → a % day ≡ b % day → a < b → a + day ≤ b
apart a b day same less =
    let x = div-add-mod' a day in
    let y = div-add-mod' b day in
    elim (cases_lt (a / day) (b / day)) [
      | inl later ↦ let far = quotients (a / day) (b / day) day later in omega (arith, x, y, same, far)
      | inr early ↦
          let near : b / day * day ≤ a / day * day = mul-le-mul_right day early in
          absurd (omega (arith, x, y, same, near, less))
    ]
