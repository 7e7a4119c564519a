-- How far from a position its unit lies.
use Rattle.std.proofs.Common.{◌≡◌, ◌+◌, ◌-◌, ◌<◌, ◌≤◌, ℕ, refl, ap, arith, inl, inr, min, max}
use Rattle.std.specs.Prelude.{ℤ, pos, negsuc, ◌+ℤ◌, nat_le, if◌then◌else◌, true, false, Option, None, Some}
use Rattle.std.proofs.lemmas.Bool.{cases_lt, cases_order}
use Rattle.std.proofs.lemmas.Int.{ints}
use Rattle.mxf_views.specs.Places.{greatest_unit}
use Rattle.mxf_units.specs.Units.{UnitsParts, unit_of}
use Rattle.mxf_timed.specs.Stored.{IsGreatestStored, IsLeastStored, IsNear, IsStoredBy, moved, stored_at, unit_or}
use Rattle.mxf_timed.proofs.OffsetLaws.{IsByte, one_byte}

itself : (p : ℕ) → IsNear p p
itself p = record { low = omega arith; high = omega arith }

near_or : (p : ℕ) (t z : ℤ) → IsByte t → z ≡ pos p +ℤ t → IsNear p (unit_or p z)
near_or p t (negsuc below) b e = itself p
near_or p t (pos unit) b e = elim (nat_le unit greatest_unit) as (λ b. IsNear p (if b then unit else p)) [
  | true ↦
      let low = b.low in
      let high = b.high in
      record { low = omega (arith, ints, e, low); high = omega (arith, ints, e, high) }
  | false ↦ itself p
]

near_moved : (p : ℕ) (offset : Option ℤ) → ((t : ℤ) → offset ≡ Some t → IsByte t) → IsNear p (moved p offset)
near_moved p None b = itself p
near_moved p (Some t) b = near_or p t (pos p +ℤ t) (b t refl) refl

pub near : (u : UnitsParts) (p : ℕ) → IsNear p (stored_at u p)
near u p = near_moved p (unit_of u.known u.index_sid p).temporal (one_byte u.known u.index_sid p)

-- Of positions so far apart the later one is stored no earlier.
pub in_order : (u : UnitsParts) (a b : ℕ) → a + 255 ≤ b → stored_at u a ≤ stored_at u b
in_order u a b far =
    let x = near u a in
    let y = near u b in
    let high = x.high in
    let low = y.low in
    omega (arith, far, high, low)

-- The least unit so far, of the positions below one.
pub record IsLeastBelow (u : UnitsParts) (first last limit unit : ℕ) : Type 0 where
  pub some : IsStoredBy u first last unit
  pub each : (p : ℕ) → first ≤ p → p < limit → unit ≤ stored_at u p

-- Those from so far behind the first on are stored no earlier than it.
pub least_of_all : (u : UnitsParts) (first last limit unit : ℕ) → first ≤ last → min last (first + 254) < limit
    → IsLeastBelow u first last limit unit → IsLeastStored u first last unit
least_of_all u first last limit unit le far h =
    let at = h.each first (omega arith) (omega (arith, le, far)) in
    record {
      some = h.some;
      each = λ p low high. elim (cases_lt p limit) [
        | inl less ↦ h.each p low less
        | inr more ↦
            let later = in_order u first p (omega (arith, far, high, more)) in
            omega (arith, at, later)
      ];
    }

-- The greatest unit so far, of the last position and those from a start on.
pub record IsGreatestBelow (u : UnitsParts) (first last start limit unit : ℕ) : Type 0 where
  pub some : IsStoredBy u first last unit
  pub end : stored_at u last ≤ unit
  pub each : (p : ℕ) → start ≤ p → p < limit → stored_at u p ≤ unit

pub greatest_of_all : (u : UnitsParts) (first last start limit unit : ℕ) → start ≡ max first (last - 254)
    → last ≤ limit → IsGreatestBelow u first last start limit unit → IsGreatestStored u first last unit
greatest_of_all u first last start limit unit is all h =
    let end = h.end in
    record {
      some = h.some;
      each = λ p low high. elim (cases_order p last) [
        | inl same ↦ let at : stored_at u p ≡ stored_at u last = ap (stored_at u) same in omega (arith, at, end)
        | inr (inr more) ↦ absurd (omega (arith, high, more))
        | inr (inl less) ↦ elim (cases_lt p start) [
          | inr near ↦ h.each p near (omega (arith, less, all))
          | inl early ↦
              let later = in_order u p last (omega (arith, is, early, low)) in
              omega (arith, later, end)
        ]
      ];
    }
