-- Facts on spelled lengths.
use Rattle.mxf_klv.proofs.Common.{◌≡◌, ℕ, suc, ◌+◌, ◌-◌, ◌^◌, ◌<◌, ◌≤◌, List, [], ◌∷◌, ◌++◌, length, get_or, take, drop}
use Rattle.mxf_klv.proofs.Common.{refl, sym, ap, ◌∙◌, arith, inr, take_at, take-append-drop, length-take, CanSpell}
use Rattle.mxf_klv.proofs.Common.{LengthParts, Result, Ok, Err, IsSpelledLength, ReadsLength}
use Rattle.mxf_klv.specs.declared.ber.BerFault.{BerFault}
use Rattle.std.proofs.Math.Nat.{pow-le-pow_right}
use Rattle.byteorder.specs.Endian.{big_number, big_bytes}
use Rattle.byteorder.specs.Numbers.{big_from-lt, big_from-take}

pub pow_256 : (n : ℕ) → n ≤ 8 → 256 ^ n ≤ 2 ^ 64
pow_256 n h = pow-le-pow_right {n = 256} (omega arith) {i = n} {j = 8} h

pub wide_fits : (bytes : List ℕ) (first : ℕ) (rest : List ℕ) → bytes ≡ first ∷ rest
    → ((i : ℕ) → get_or bytes i 0 < 256) → 129 ≤ first → first ≤ 136
    → CanSpell (first - 127) (big_number (first - 128) rest)
wide_fits bytes first rest is fits low high =
    let e : first - 127 - 1 ≡ first - 128 = omega arith in
    let rest_fits : (i : ℕ) → get_or rest i 0 < 256 = λ i. rw is at (fits (suc i)) in
    inr (omega arith, omega arith, rw e (big_from-lt 0 (first - 128) rest rest_fits))

-- what a first byte from 129 on and the bytes after it stand for
pub wide_found_cons : (first : ℕ) (rest : List ℕ) (n : ℕ) → first ≡ 129 + n → n ≤ 7 → suc n ≤ length rest
    → IsSpelledLength (take (suc (suc n)) (first ∷ rest)) (suc (suc n)) (big_number (suc n) rest)
wide_found_cons first rest n is high long =
    let e : suc (suc n) - 1 ≡ suc n = omega arith in
    inr (
      omega arith,
      omega arith,
      omega arith,
      rw e (omega (arith, length-take (suc n) rest)),
      rw e (sym (big_from-take 0 (suc n) (suc n) rest (omega arith))),
    )

pub wide_found : (bytes : List ℕ) (first : ℕ) (rest : List ℕ) → bytes ≡ first ∷ rest → 129 ≤ first → first ≤ 136
    → first - 128 ≤ length rest → IsSpelledLength (take (first - 127) bytes) (first - 127)
    (big_number (first - 128) rest)
wide_found bytes first rest is low high long =
    grind (arith, wide_found_cons first rest (first - 129) (omega arith) (omega arith) (omega arith))

-- a spelled length has as many bytes as its width
pub spelled_len : (spelled : List ℕ) (w v : ℕ) → IsSpelledLength spelled w v → length spelled ≡ w
spelled_len spelled w v h = grind arith

-- two lengths at the front of one text are one
pub one_length : (a b x y : List ℕ) (m v n w : ℕ) → IsSpelledLength a m v → IsSpelledLength b n w → a ++ x ≡ b ++ y
    → (a ≡ b) × (m ≡ n) × (v ≡ w)
one_length [] b x y m v n w p q e = absurd p
one_length (c ∷ cs) [] x y m v n w p q e = absurd q
one_length (c ∷ cs) (d ∷ ds) x y m v n w p q e = grind (arith, take_at cs x (length cs) refl, take_at ds y (length cs))

-- where a length stands there is no fault
ok_excludes : (bytes : List ℕ) (w v : ℕ) → IsSpelledLength (take w bytes) w v → (e : BerFault) → ReadsLength bytes
    (Err e) → ⊥
ok_excludes bytes w v h e k = grind (arith, length-take)

one_fault : (bytes : List ℕ) (d e : BerFault) → ReadsLength bytes (Err d) → ReadsLength bytes (Err e) → d ≡ e
one_fault bytes d e h k = grind arith

-- what bytes begin with is one thing
pub one_reading : (bytes : List ℕ) (r s : Result LengthParts BerFault) → ReadsLength bytes r → ReadsLength bytes s
    → r ≡ s
one_reading bytes (Ok l) (Ok m) p q =
    grind (
      arith,
      one_length (take l.width bytes) (take m.width bytes) (drop l.width bytes)
          (drop m.width bytes) l.width l.value m.width m.value p q
          (take-append-drop l.width bytes ∙ sym (take-append-drop m.width bytes)),
    )
one_reading bytes (Ok l) (Err e) p q = absurd (ok_excludes bytes l.width l.value p e q)
one_reading bytes (Err d) (Ok l) p q = absurd (ok_excludes bytes l.width l.value q d p)
one_reading bytes (Err d) (Err e) p q = ap (λ (x : BerFault). Err x) (one_fault bytes d e p q)

-- what the writer of a number leaves at the front
pub wide_spelled : (w v n : ℕ) (bytes tail : List ℕ) → w ≡ n + 1 → 1 ≤ n → n ≤ 8 → v < 256 ^ n
    → bytes ≡ big_bytes n v ++ tail → IsSpelledLength ((127 + w) ∷ take n bytes) w v
wide_spelled w v n bytes tail is low high fits e = grind arith
