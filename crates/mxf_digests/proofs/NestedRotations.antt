-- Rotations of a word inside one another, bit by bit, for the four sigmas (FIPS 180-4, section 4.1.2).
use Rattle.std.proofs.Common.{◌≡◌, ℕ, ◌+◌, ◌-◌, ◌*◌, ◌/◌, ◌%◌, ◌^◌, ◌<◌, ◌≤◌, bit_or, bit_xor, arith, ap, ap₂, refl}
use Rattle.std.proofs.Common.{sym, ◌∙◌, inl, inr, pow_pos, shr-shr, w32}
use Rattle.std.proofs.lemmas.Bool.{cases_lt}
use Rattle.std.proofs.lemmas.Nat.{or_lt, shr_le, xor_lt}
use Rattle.std.proofs.lemmas.Nat.Bits.{bit_at-zero, bit_at_above, bit_at_cat_high, bit_at_cat_low, bit_at_or}
use Rattle.std.proofs.lemmas.Nat.Bits.{bit_at_xor, same_from_bits_below}
use Rattle.std.specs.Int.{bit_at, rotate_right}
use lib.Bits.{xor_assoc}

-- a word that is rotated right by k places
abbrev turned : ℕ → ℕ → ℕ
turned x k = rotate_right w32 x k

-- the bits of a number that is shifted right
bit_shifted_right : (x k i : ℕ) → bit_at (x / 2 ^ k) i ≡ bit_at x (k + i)
bit_shifted_right x k i = ap (λ n. n % 2) (shr-shr x k i)

-- the bits of a number's lowest word
bit_of_word : (x i : ℕ) → i < 32 → bit_at (x % 2 ^ 32) i ≡ bit_at x i
bit_of_word x i low =
    let parts : x / 2 ^ 32 * 2 ^ 32 + x % 2 ^ 32 ≡ x = omega arith in
    sym (bit_at_cat_low (x / 2 ^ 32) 32 (x % 2 ^ 32) i low) ∙ ap (λ n. bit_at n i) parts

-- the bits of a word that is shifted left
bit_shifted_left : (x k i : ℕ) → k ≤ i → i < 32 → bit_at (x * 2 ^ k % 2 ^ 32) i ≡ bit_at x (i - k)
bit_shifted_left x k i from low =
    let alone : x * 2 ^ k ≡ x * 2 ^ k + 0 = omega arith in
    bit_of_word (x * 2 ^ k) i low ∙ ap (λ n. bit_at n i) alone ∙ bit_at_cat_high x k 0 i (pow_pos k) from

-- the zeros that the shift leaves below them
zero_shifted_in : (x k i : ℕ) → i < k → i < 32 → bit_at (x * 2 ^ k % 2 ^ 32) i ≡ 0
zero_shifted_in x k i below low =
    let alone : x * 2 ^ k ≡ x * 2 ^ k + 0 = omega arith in
    bit_of_word (x * 2 ^ k) i low ∙ ap (λ n. bit_at n i) alone ∙ bit_at_cat_low x k 0 i below ∙ bit_at-zero i

-- a rotation is a shift to each side
two_shifts : (x k : ℕ) → 0 < k → k < 32 → turned x k ≡ bit_or (x / 2 ^ k) (x * 2 ^ (32 - k) % 2 ^ 32)
two_shifts x k some within =
    let right : k % 32 ≡ k = omega arith in
    let left : (32 - k) % 32 ≡ 32 - k = omega arith in
    rw (right, left) refl

-- a rotation takes each bit from k places above, and those past the word's end from its start
bit_turned : (x k i : ℕ) → x < 2 ^ 32 → 0 < k → k < 32 → i < 32 → bit_at (turned x k) i ≡ bit_at x ((i + k) % 32)
bit_turned x k i fits some within low =
    ap (λ n. bit_at n i) (two_shifts x k some within) ∙ bit_at_or (x / 2 ^ k) (x * 2 ^ (32 - k) % 2 ^ 32) i
    ∙ elim (cases_lt (i + k) 32) [
      | inl inside ↦
          let place : (i + k) % 32 ≡ k + i = omega arith in
          rw (zero_shifted_in x (32 - k) i (omega arith) low, bit_shifted_right x k i, place) (omega arith)
      | inr past ↦
          let place : (i + k) % 32 ≡ i - (32 - k) = omega arith in
          rw (bit_shifted_left x (32 - k) i (omega arith) low, bit_shifted_right x k i, place)
          (omega (arith, bit_at_above x 32 (k + i) fits (omega arith)))
    ]

-- a rotated word is a word
turned_fits : (x k : ℕ) → x < 2 ^ 32 → turned x k < 2 ^ 32
turned_fits x k fits =
    let left = x * 2 ^ ((32 - k % 32) % 32) % 2 ^ 32 in
    or_lt 32 (x / 2 ^ (k % 32)) left (omega (arith, shr_le x (k % 32))) (omega arith)

-- a rotation of an exclusive or rotates both its sides
turned_xor : (x y k : ℕ) → x < 2 ^ 32 → y < 2 ^ 32 → 0 < k → k < 32
    → turned (bit_xor x y) k ≡ bit_xor (turned x k) (turned y k)
turned_xor x y k hx hy some within =
    let whole = xor_lt 32 x y hx hy in
    let sides = xor_lt 32 (turned x k) (turned y k) (turned_fits x k hx) (turned_fits y k hy) in
    same_from_bits_below 32 _ _ (turned_fits (bit_xor x y) k whole) sides (λ i low.
    bit_turned (bit_xor x y) k i whole some within low ∙ bit_at_xor x y ((i + k) % 32)
    ∙ sym (bit_at_xor (turned x k) (turned y k) i
    ∙ ap₂ (λ p q. (p + q) % 2) (bit_turned x k i hx some within low) (bit_turned y k i hy some within low)))

-- two rotations are one by the sum of their counts
turned_twice : (x k m : ℕ) → x < 2 ^ 32 → 0 < k → 0 < m → k + m < 32 → turned (turned x m) k ≡ turned x (k + m)
turned_twice x k m fits some more within =
    let once = turned_fits x m fits in
    same_from_bits_below 32 _ _ (turned_fits (turned x m) k once) (turned_fits x (k + m) fits) (λ i low.
    bit_turned (turned x m) k i once some (omega arith) low
    ∙ bit_turned x m ((i + k) % 32) fits more (omega arith) (omega arith)
    ∙ ap (bit_at x) (omega arith)
    ∙ sym (bit_turned x (k + m) i fits (omega arith) within low))

-- a rotation inside another
pub nested_two : (x k m : ℕ) → x < 2 ^ 32 → 0 < k → 0 < m → k + m < 32
    → turned (bit_xor x (turned x m)) k ≡ bit_xor (turned x k) (turned x (k + m))
nested_two x k m fits some more within =
    turned_xor x (turned x m) k fits (turned_fits x m fits) some (omega arith)
    ∙ ap (bit_xor (turned x k)) (turned_twice x k m fits some more within)

-- a rotation inside another inside a third
pub nested_three : (x k m n : ℕ) → x < 2 ^ 32 → 0 < k → 0 < m → 0 < n → k + m + n < 32
    → turned (bit_xor x (turned (bit_xor x (turned x n)) m)) k
    ≡ bit_xor (bit_xor (turned x k) (turned x (k + m))) (turned x (k + m + n))
nested_three x k m n fits some more most within =
    let inner = bit_xor x (turned x n) in
    let inner_fits = xor_lt 32 x (turned x n) fits (turned_fits x n fits) in
    turned_xor x (turned inner m) k fits (turned_fits inner m inner_fits) some (omega arith)
    ∙ ap (bit_xor (turned x k))
    (turned_twice inner k m inner_fits some more (omega arith) ∙ nested_two x (k + m) n fits (omega arith) most within)
    ∙ sym (xor_assoc (turned x k) (turned x (k + m)) (turned x (k + m + n)))
