-- Strings of JSON.
use Rattle.std.proofs.Common.{◌≡◌, ℕ, ◌+◌, ◌/◌, ◌≤◌, ◌++◌, false, List, [], ◌∷◌, Some, arith, refl, le-ltb, lt-ltb}
use Rattle.std.proofs.Common.{ne_eqb, inl, inr, append_assoc}
use Rattle.std.proofs.lemmas.Bool.{cases_lt, cases_eq}
use lib.Utf8.{encode, next}
use Rattle.mxf_forms.specs.Forms.{escaped, escaped_character, quoted, string_at, string_end}

plain : (b : ℕ) → (b ≡ 34 → ⊥) → (b ≡ 92 → ⊥) → escaped_character b ≡ b ∷ []
plain b quote backslash = rw (ne_eqb b 34 quote, ne_eqb b 92 backslash) refl

-- A byte that isn't ASCII.
high : (b : ℕ) → 128 ≤ b → escaped_character b ≡ b ∷ []
high b h = plain b (λ e. omega (arith, h, e)) (λ e. omega (arith, h, e))

pub escaped_plain : (c : ℕ) → (c ≡ 34 → ⊥) → (c ≡ 92 → ⊥) → escaped (encode c) ≡ encode c
unfolding encode
escaped_plain c quote backslash =
    elim (cases_lt c 128) [
      | inl h ↦ rw (lt-ltb c 128 h) (rw (plain c quote backslash) refl)
      | inr h ↦ elim (cases_lt c 2048) [
        | inl l ↦ rw (le-ltb c 128 h, lt-ltb c 2048 l)
            (rw (high (192 + c / 64) (omega arith), high (next c) (omega arith)) refl)
        | inr l ↦ elim (cases_lt c 65536) [
          | inl m ↦ rw (le-ltb c 128 h, le-ltb c 2048 l, lt-ltb c 65536 m)
              (rw (high (224 + c / 4096) (omega arith), high (next (c / 64)) (omega arith), high (next c) (omega arith))
              refl)
          | inr m ↦ rw (le-ltb c 128 h, le-ltb c 2048 l, le-ltb c 65536 m)
              (rw (
                high (240 + c / 262144) (omega arith),
                high (next (c / 4096)) (omega arith),
                high (next (c / 64)) (omega arith),
                high (next c) (omega arith),
              ) refl)
        ]
      ]
    ]

within : (text rest : List ℕ) → string_end false (escaped text ++ 34 ∷ rest) ≡ Some (text, rest)
within [] rest = refl
within (c ∷ text) rest =
    elim (cases_eq c 34) [
      | inl e ↦ rw e (rw (within text rest) refl)
      | inr quote ↦ elim (cases_eq c 92) [
        | inl e ↦ rw e (rw (within text rest) refl)
        | inr backslash ↦ rw (ne_eqb c 34 quote, ne_eqb c 92 backslash)
            (rw (ne_eqb c 34 quote, ne_eqb c 92 backslash, within text rest) refl)
      ]
    ]

pub given_back : (text rest : List ℕ) → string_at (quoted text ++ rest) ≡ Some (text, rest)
given_back text rest = rw (append_assoc (escaped text) (34 ∷ []) rest) (within text rest)
