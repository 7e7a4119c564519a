-- Edit units beside sources stand in one list of runs, and a note has one first and one last of them at most.
use Rattle.mxf_views.proofs.Common.{◌≡◌, ◌∙◌, ◌≤◌, ◌+◌, ℕ, List, [], ◌∷◌, Option, None, Some, refl, sym, subst}
use Rattle.mxf_views.proofs.Common.{inl, inr, arith, cases_lt, NoteParts, SameMembers}
use Rattle.mxf_catalogue.specs.declared.run.Run.{Run}
use Rattle.mxf_units.specs.Units.{UnitsParts}
use Rattle.mxf_units.specs.declared.standing.UnitStanding.{UnitStanding}
use Rattle.mxf_units.specs.declared.unit.Extent.{Extent}
use Rattle.mxf_verify.specs.Fixities.{AreUnitRuns, AreUnitsOf, AreVerifiedUnits, IsFirstTouched, IsFixityBy}
use Rattle.mxf_verify.specs.Fixities.{IsLastTouched, VerifiedUnitsParts}
use Rattle.mxf_verify.specs.declared.fixity.UnitFixity.{UnitFixity}
use Rattle.mxf_verify.specs.declared.unit_places.UnitPlace.{UnitPlace}
use Rattle.mxf_verify.specs.declared.unit_places.UnitSpan.{UnitSpan}
use Rattle.mxf_verify.specs.declared.verified_units.UnitRun.{UnitRun}
use Rattle.mxf_verify.proofs.FixityLaws.{one_fixity}

-- ---- runs

one_standing : (verified altered : List Run) (standing : UnitStanding) (extent : Option Extent) (f g : UnitFixity)
    → IsFixityBy verified altered standing extent f → IsFixityBy verified altered standing extent g → f ≡ g
one_standing verified altered standing None f g h k = h ∙ sym k
one_standing verified altered standing (Some e) f g h k = one_fixity verified altered e f g h k

module _ (P : ℕ → UnitFixity → Type 0) (one : (unit : ℕ) (f g : UnitFixity) → P unit f → P unit g → f ≡ g) where
  -- A first run ends no sooner than that of another list: what follows it would stand as it does.
  no_sooner : (from to : ℕ) (x y : UnitRun) (xs ys : List UnitRun) → AreUnitRuns P from to (x ∷ xs)
      → AreUnitRuns P from to (y ∷ ys) → x.fixity ≡ y.fixity → y.last ≤ x.last
  no_sooner from to x y [] ys h k same = grind arith
  no_sooner from to x y (z ∷ xs) ys h k same =
      elim (cases_lt x.last y.last) [
        | inr late ↦ late
        | inl soon ↦ absurd (
            let next = x.last + 1 in
            let some : from ≤ x.last = h.1 in
            let more : next ≤ z.last = h.5.1 in
            let of_z = h.5.3 next (omega arith) more in
            let of_y = k.3 next (omega (arith, some)) (omega (arith, soon)) in
            h.4 (same ∙ one next y.fixity z.fixity of_y of_z))
      ]

  same_first : (x y : UnitRun) → x.first ≡ y.first → x.last ≡ y.last → x.fixity ≡ y.fixity → x ≡ y
  same_first x y a b c i = record { first = a i; last = b i; fixity = c i }

  one_list : (from to : ℕ) (xs ys : List UnitRun) → AreUnitRuns P from to xs → AreUnitRuns P from to ys → xs ≡ ys
  one_list from to [] [] h k = refl
  one_list from to [] (y ∷ ys) h k = grind arith
  one_list from to (x ∷ xs) [] h k = grind arith
  one_list from to (x ∷ xs) (y ∷ ys) h k =
      let fixity = one from x.fixity y.fixity (h.3 from (omega arith) h.1) (k.3 from (omega arith) k.1) in
      let a = no_sooner from to x y xs ys h k fixity in
      let b = no_sooner from to y x ys xs k h (sym fixity) in
      let last : x.last ≡ y.last = omega (arith, a, b) in
      let first : x ≡ y = same_first x y (h.0 ∙ sym k.0) last fixity in
      let rest = one_list (x.last + 1) to xs ys h.5 (subst (λ (n : ℕ). AreUnitRuns P (n + 1) to ys) (sym last) k.5) in
      λ i. first i ∷ rest i

pub one_list_of_runs : (verified altered : List Run) (units : UnitsParts) (from to : ℕ) (a b : VerifiedUnitsParts)
    → AreVerifiedUnits verified altered units from to a → AreVerifiedUnits verified altered units from to b
    → a.runs ≡ b.runs
one_list_of_runs verified altered units from to a b h k = grind (arith, one_list, one_standing)

-- ---- spans

module _ (places others : List UnitPlace) (same : SameMembers places others) (n : NoteParts) where
  one_first : (a b : ℕ) → IsFirstTouched places n a → IsFirstTouched others n b → a ≡ b
  one_first a b h k = grind arith

  one_last : (a b : ℕ) → IsLastTouched places n a → IsLastTouched others n b → a ≡ b
  one_last a b h k = grind arith

  pub one_span : (a b : Option UnitSpan) → AreUnitsOf places n a → AreUnitsOf others n b → a ≡ b
  one_span None None h k = refl
  one_span None (Some t) h k = absurd (h k.0.place ((same k.0.place).1 k.0.is_one) k.0.touched)
  one_span (Some s) None h k = absurd (k h.0.place ((same h.0.place).0 h.0.is_one) h.0.touched)
  one_span (Some s) (Some t) h k = grind (arith, one_first, one_last)
