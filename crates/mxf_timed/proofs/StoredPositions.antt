-- What units store of the positions so far, and with the next one.
use Rattle.std.proofs.Common.{◌≡◌, ◌≢◌, ◌⊎◌, ◌∙◌, ◌+◌, ◌≤◌, ℕ, refl, sym, ap, subst, inl, inr, arith}
use Rattle.std.proofs.Common.{List, ◌++◌, Option, Some, None, drop, length, slice_get, take}
use Rattle.std.proofs.Math.Seq.{take-append_seam}
use Rattle.std.specs.Option.{option_and_then}
use Rattle.std.proofs.lemmas.Bool.{cases_lt, cases_order}
use Rattle.std.proofs.lemmas.Option.{same_Some}
use Rattle.mxf_units.specs.Units.{UnitsParts}
use Rattle.mxf_timed.specs.Stored.{stored_at}
use Rattle.mxf_timed.specs.declared.shown.Stored.{Stored}
use Rattle.mxf_timed.specs.declared.shown.Stored.TheVariants.{Nothing, One, Several}
use Rattle.mxf_timed.specs.Shown.{AreStored, IsStoredWithin, IsWithPosition, Stores, with_position}

-- ---- the next position

module _ (u : UnitsParts) (from end unit : ℕ) where
  wider : (p : ℕ) → IsStoredWithin u from end unit p → IsStoredWithin u from (end + 1) unit p
  wider p w = record { from_on = w.from_on; below = let b = w.below in omega (arith, b); there = w.there }

  -- It is one of those before, or the next.
  before : (p : ℕ) → IsStoredWithin u from (end + 1) unit p → IsStoredWithin u from end unit p ⊎ (p ≡ end)
  before p w = elim (cases_lt p end) [
    | inl l ↦ inl (record { from_on = w.from_on; below = l; there = w.there })
    | inr l ↦ inr (let b = w.below in omega (arith, l, b))
  ]

  stores-other : (s : Stored) → stored_at u end ≢ unit → Stores u from end unit s
      → Stores u from (end + 1) unit s
  stores-other Nothing n h = λ p w. elim (before p w) [
    | inl b ↦ h p b
    | inr e ↦ n (ap (stored_at u) (sym e) ∙ w.there)
  ]
  stores-other (One q) n h = (
    wider q h.0,
    λ p w. elim (before p w) [
      | inl b ↦ h.1 p b
      | inr e ↦ absurd (n (ap (stored_at u) (sym e) ∙ w.there))
    ],
  )
  stores-other Several n h = (h.0, h.1, wider h.0 h.2, wider h.1 h.3, h.4)

  next : from ≤ end → stored_at u end ≡ unit → IsStoredWithin u from (end + 1) unit end
  next l e = record { from_on = l; below = omega arith; there = e }

  stores-one : (s : Stored) → from ≤ end → stored_at u end ≡ unit → Stores u from end unit s
      → Stores u from (end + 1) unit (with_position s end)
  stores-one Nothing l e h = (next l e, λ p w. elim (before p w) [ inl b ↦ absurd (h p b) | inr q ↦ q ])
  stores-one (One q) l e h =
      (q, end, wider q h.0, next l e, λ same. let b = h.0.below in omega (arith, b, same))
  stores-one Several l e h = (h.0, h.1, wider h.0 h.2, wider h.1 h.3, h.4)

changed : (o : Option Stored) (p : ℕ) (s : Stored) → option_and_then (λ x. Some (with_position x p)) o ≡ Some s
    → (x : Stored) × (o ≡ Some x) × (with_position x p ≡ s)
changed None p s e = absurd cc
changed (Some x) p s e = (x, refl, same_Some _ _ e)

pub stored-next : (u : UnitsParts) (from end first : ℕ) (old new : List Stored) → from ≤ end
    → AreStored u from end first old → IsWithPosition first (stored_at u end) end old new
    → AreStored u from (end + 1) first new
stored-next u from end first old new l are w = λ k s e.
    let unit = stored_at u end in
    let apart : first + k ≢ unit → Stores u from (end + 1) (first + k) s =
    λ n. stores-other u from end (first + k) s (λ q. n (sym q)) (are k s (sym (w.others k n) ∙ e)) in
    elim (cases_order (first + k) unit) [
      | inl q ↦
          let c = changed (slice_get old k) end s (sym (w.one k q) ∙ e) in
          subst (λ (x : Stored). Stores u from (end + 1) (first + k) x) c.2
          (stores-one u from end (first + k) c.0 l (sym q) (are k c.0 c.1))
      | inr (inl h) ↦ apart (λ q. omega (arith, h, q))
      | inr (inr h) ↦ apart (λ q. omega (arith, h, q))
    ]

-- A list that is changed whole.
pub whole : {K : Type 0} (old new : List K) (n : ℕ) → length new ≡ length old → n ≡ length old
    → take n (new ++ drop (length new) old) ≡ new
whole old new n e f =
    ap (λ k. take k (new ++ drop (length new) old)) (f ∙ sym e) ∙ take-append_seam new (drop (length new) old)
