-- The unit that stores a position, by the place at which it lies.
use Rattle.std.proofs.Common.{◌≡◌, ◌↔◌, ℕ, refl, sym, arith, inl, inr}
use Rattle.std.specs.Prelude.{ℤ, pos, negsuc, ◌+ℤ◌, nat_le, if◌then◌else◌, true, false, Option, None, Some}
use Rattle.std.proofs.lemmas.Bool.{leb-false, leb-true}
use Rattle.std.proofs.lemmas.Int.{ints}
use Rattle.mxf_views.specs.Places.{greatest_unit}
use Rattle.mxf_timed.specs.Stored.{IsStoredAt, moved, unit_or}

by_sum : (p unit : ℕ) (t z : ℤ) → z ≡ pos p +ℤ t → (unit_or p z ≡ unit) ↔ IsStoredAt p (Some t) unit
by_sum p unit t (negsuc below) is = (
  λ e. inr (sym e, λ x a. absurd (omega (arith, ints, is, a.0))),
  λ h. elim h [ inl a ↦ absurd (omega (arith, ints, is, a.0)) | inr b ↦ sym b.0 ],
)
by_sum p unit t (pos x) is = elim (nat_le x greatest_unit) as (λ b. nat_le x greatest_unit ≡ b
    → ((if b then x else p) ≡ unit) ↔ IsStoredAt p (Some t) unit) [
      | true ↦ λ test.
          let low = leb-true x greatest_unit test in (
            λ e. inl (omega (arith, ints, is, e), omega (arith, low, e)),
            λ h. elim h [
              | inl a ↦ omega (arith, ints, is, a.0)
              | inr b ↦ absurd (b.1 x (is, low))
            ],
          )
      | false ↦ λ test.
          let high = leb-false x greatest_unit test in (
            λ e. inr (sym e, λ y a. absurd (omega (arith, ints, is, a.0, a.1, high))),
            λ h. elim h [
              | inl a ↦ absurd (omega (arith, ints, is, a.0, a.1, high))
              | inr b ↦ sym b.0
            ],
          )
    ] refl

pub stored_is : (p : ℕ) (offset : Option ℤ) (unit : ℕ) → (moved p offset ≡ unit) ↔ IsStoredAt p offset unit
stored_is p None unit = (λ e. sym e, λ e. sym e)
stored_is p (Some t) unit = by_sum p unit t (pos p +ℤ t) refl
