-- How bytes of an extent stand beside runs.
use Rattle.mxf_views.proofs.Common.{◌≡◌, ◌↔◌, ◌⊎◌, ◌<◌, ◌≤◌, ◌+◌, ◌-◌, ℕ, zero, suc, Bool, IsTrue, List, None, Some}
use Rattle.mxf_views.proofs.Common.{refl, subst, inl, inr, arith, min, unwrap_or, cases_lt, LiesIn}
use Rattle.mxf_catalogue.specs.declared.run.Run.{Run}
use Rattle.mxf_units.specs.Units.{asked_end}
use Rattle.mxf_units.specs.declared.unit.Extent.{Extent}
use Rattle.mxf_verify.specs.Fixities.{IsFixityIn, LiesWholeIn, Meets}
use Rattle.mxf_verify.specs.Touching.{cut_end, greatest_number}
use Rattle.mxf_verify.specs.declared.fixity.UnitFixity.{UnitFixity}
use Rattle.mxf_verify.specs.declared.fixity.UnitFixity.TheVariants.{Differs, Unverified, Part, Verified, Unplaced}
use Rattle.mxf_verify.proofs.RangeLaws.{lies_or_not}

-- ---- each extent has one fixity

-- Something holds of all numbers of a range, or it doesn't of one.
all_or_not : (P : ℕ → Type 0) → ((x : ℕ) → P x ⊎ (P x → ⊥)) → (from len : ℕ)
    → ((x : ℕ) → from ≤ x → x < from + len → P x) ⊎ ((x : ℕ) × (from ≤ x) × (x < from + len) × (P x → ⊥))
all_or_not P known from zero = inl (λ x l r. absurd (omega arith))
all_or_not P known from (suc len) =
    elim (all_or_not P known from len) [
      | inr s ↦ (
          let l = s.1 in
          let r = s.2 in inr (s.0, l, omega (arith, r), s.3))
      | inl all ↦ elim (known (from + len)) [
        | inl p ↦ inl (λ x l r. elim (cases_lt x (from + len)) [
          | inl below ↦ all x l below
          | inr above ↦ (let same : from + len ≡ x = omega (arith, above, r) in subst P same p)
        ])
        | inr n ↦ inr (from + len, omega arith, omega arith, n)
      ]
    ]

lies_not_or : (runs : List Run) (at : ℕ) → (LiesIn runs at → ⊥) ⊎ ((LiesIn runs at → ⊥) → ⊥)
lies_not_or runs at = elim (lies_or_not runs at) [ inl k ↦ inr (λ n. n k) | inr n ↦ inl n ]

meets_or_not : (runs : List Run) (e : Extent) → Meets runs e ⊎ (Meets runs e → ⊥)
meets_or_not runs e =
    elim (all_or_not (λ x. LiesIn runs x → ⊥) (lies_not_or runs) e.start (asked_end e - e.start)) [
      | inl none ↦ inr (λ m.
          let from : e.start ≤ m.0 = m.1 in
          let below : m.0 < asked_end e = m.2 in none m.0 from (omega (arith, from, below)) m.3)
      | inr s ↦ elim (lies_or_not runs s.0) [
        | inl k ↦ (
            let from : e.start ≤ s.0 = s.1 in
            let below : s.0 < e.start + (asked_end e - e.start) = s.2 in
            inl (s.0, from, omega (arith, from, below), k))
        | inr n ↦ absurd (s.3 n)
      ]
    ]

whole_or_not : (runs : List Run) (e : Extent) → LiesWholeIn runs e ⊎ (LiesWholeIn runs e → ⊥)
whole_or_not runs e =
    elim e.end as (λ o. e.end ≡ o → LiesWholeIn runs e ⊎ (LiesWholeIn runs e → ⊥)) [
      | None ↦ λ t. inr (λ w. let u = w.1 in absurd (cc (t, u)))
      | Some end ↦ λ t. elim (all_or_not (λ x. LiesIn runs x) (lies_or_not runs) e.start (end - e.start)) [
        | inl all ↦ inl (end, t, λ at from below. all at from (omega (arith, from, below)))
        | inr s ↦ inr (λ w.
            let u : e.end ≡ Some w.0 = w.1 in
            let same : end ≡ w.0 = cc (t, u) in
            let from : e.start ≤ s.0 = s.1 in
            let below : s.0 < e.start + (end - e.start) = s.2 in
            s.3 (w.2 s.0 from (omega (arith, from, below, same))))
      ]
    ] refl

pub some_fixity : (verified altered : List Run) (e : Extent)
    → (fixity : UnitFixity) × IsFixityIn verified altered e fixity
some_fixity verified altered e =
    elim (meets_or_not altered e) [
      | inl m ↦ (Differs, m)
      | inr other ↦ elim (meets_or_not verified e) [
        | inr none ↦ (Unverified, (other, none))
        | inl some ↦ elim (whole_or_not verified e) [
          | inl whole ↦ (Verified, (other, some, whole))
          | inr part ↦ (Part, (other, some, part))
        ]
      ]
    ]

pub one_fixity : (verified altered : List Run) (e : Extent) (a b : UnitFixity) → IsFixityIn verified altered e a
    → IsFixityIn verified altered e b → a ≡ b
one_fixity verified altered e Differs Differs h k = refl
one_fixity verified altered e Differs Unverified h k = absurd (k.0 h)
one_fixity verified altered e Differs Part h k = absurd (k.0 h)
one_fixity verified altered e Differs Verified h k = absurd (k.0 h)
one_fixity verified altered e Differs (Unplaced s) h k = absurd k
one_fixity verified altered e Unverified Differs h k = absurd (h.0 k)
one_fixity verified altered e Unverified Unverified h k = refl
one_fixity verified altered e Unverified Part h k = absurd (h.1 k.1)
one_fixity verified altered e Unverified Verified h k = absurd (h.1 k.1)
one_fixity verified altered e Unverified (Unplaced s) h k = absurd k
one_fixity verified altered e Part Differs h k = absurd (h.0 k)
one_fixity verified altered e Part Unverified h k = absurd (k.1 h.1)
one_fixity verified altered e Part Part h k = refl
one_fixity verified altered e Part Verified h k = absurd (h.2 k.2)
one_fixity verified altered e Part (Unplaced s) h k = absurd k
one_fixity verified altered e Verified Differs h k = absurd (h.0 k)
one_fixity verified altered e Verified Unverified h k = absurd (k.1 h.1)
one_fixity verified altered e Verified Part h k = absurd (k.2 h.2)
one_fixity verified altered e Verified Verified h k = refl
one_fixity verified altered e Verified (Unplaced s) h k = absurd k
one_fixity verified altered e (Unplaced s) b h k = absurd h

-- ---- an extent beside a cover, cut where that ends

-- Below the greatest number an end is what it is asked about.
pub cut_below : (e : Extent) (at : ℕ) → at < greatest_number → (at < cut_end e) ↔ (at < asked_end e)
cut_below e at low = grind (arith, unwrap_or)

pub cut_same : (e : Extent) → e.start < greatest_number → cut_end e ≡ asked_end e
cut_same e low = grind (arith, unwrap_or)

-- What lies in runs lies below a number, and below no lesser one.
abbrev pub EndAt : List Run → ℕ → Type 0
EndAt runs end = (bound : ℕ) → end ≤ bound ↔ ((offset : ℕ) → LiesIn runs offset → offset < bound)

pub below_end : (runs : List Run) (end at : ℕ) → EndAt runs end → LiesIn runs at → at < end
below_end runs end at ends k = (ends end).0 (omega arith) at k

pub met_where_cut : (runs : List Run) (e : Extent) (end to : ℕ) (b : Bool) → EndAt runs end → end < greatest_number
    → to ≡ min (cut_end e) end
    → IsTrue b ↔ ((at : ℕ) × LiesIn runs at × (e.start ≤ at) × (at < to)) → IsTrue b ↔ Meets runs e
met_where_cut runs e end to b ends low cut met = (
  λ t.
      let m = met.0 t in
      let before : m.0 < to = m.3 in
      let under : m.0 < greatest_number = omega (arith, before, cut, low) in
      (m.0, m.2, (cut_below e m.0 under).0 (omega (arith, before, cut)), m.1),
  λ m.
      let under = below_end runs end m.0 ends m.3 in
      let before = (cut_below e m.0 (omega (arith, under, low))).1 m.2 in
      met.1 (m.0, m.3, m.1, omega (arith, before, cut, under)),
)

pub not_met_behind : (runs : List Run) (e : Extent) (end : ℕ) → EndAt runs end → end ≤ e.start → Meets runs e → ⊥
not_met_behind runs e end ends behind m =
    let under = below_end runs end m.0 ends m.3 in
    let from : e.start ≤ m.0 = m.1 in omega (arith, under, behind, from)

pub whole_below_end : (runs : List Run) (end start to : ℕ) → EndAt runs end → start < to
    → ((at : ℕ) → start ≤ at → at < to → LiesIn runs at) → to ≤ end
whole_below_end runs end start to ends some all =
    let last = below_end runs end (to - 1) ends (all (to - 1) (omega (arith, some)) (omega (arith, some))) in
    omega (arith, last, some)
