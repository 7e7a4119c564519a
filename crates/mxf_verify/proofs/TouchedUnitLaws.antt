-- Going through places finds the units that a note has a byte of, and there is one answer.
use Rattle.mxf_views.proofs.Common.{◌≡◌, ◌⊎◌, ◌<◌, ◌≤◌, ℕ, Bool, true, false, cond, List, [], ◌∷◌, Option, None}
use Rattle.mxf_views.proofs.Common.{Some, arith, inl, inr, max, min, refl, subst, sym, and_cases, and_parts, eqb-false}
use Rattle.mxf_views.proofs.Common.{ltb-false, or_cases, or_parts, covered_end, NoteParts, In}
use Rattle.std.proofs.lemmas.Bool.{cases_eq, eqb-true, ltb-true}
use Rattle.mxf_units.specs.Units.{asked_end}
use Rattle.mxf_verify.specs.Fixities.{AreUnitsOf, IsFirstTouched, IsLastTouched, IsTouched}
use Rattle.mxf_verify.specs.TouchedUnits.{begins_before, chosen, ends_behind, first_touched, is_touched, span_of}
use Rattle.mxf_verify.specs.TouchedUnits.{units_touched}
use Rattle.mxf_verify.specs.declared.unit_places.UnitPlace.{UnitPlace}
use Rattle.mxf_verify.specs.declared.unit_places.UnitSpan.{UnitSpan}

-- The test says whether the note holds a byte of the place.
touched : (n : NoteParts) (p : UnitPlace) → is_touched n p ≡ true → IsTouched n p
touched n p t =
    let low : max n.offset p.extent.start < min (covered_end n) (asked_end p.extent) = ltb-true _ _ t in (
      max n.offset p.extent.start,
      record { from = omega arith; before = omega arith },
      omega arith,
      omega arith,
    )

untouched : (n : NoteParts) (p : UnitPlace) → is_touched n p ≡ false → IsTouched n p → ⊥
untouched n p f (at, held, from, before) = grind (arith, ltb-false)

-- An order of places by a test: a place leads another where that doesn't go before it.
record IsLeading (goes_before : UnitPlace → UnitPlace → Bool) (Leads : UnitPlace → UnitPlace → Type 0) : Type 0 where
  itself : (p : UnitPlace) → Leads p p
  along : (p q r : UnitPlace) → Leads p q → Leads q r → Leads p r
  before : (p q : UnitPlace) → goes_before p q ≡ true → Leads p q
  behind : (p q : UnitPlace) → goes_before p q ≡ false → Leads q p

-- The place is one of those that the note touches, and leads all of them.
record IsLeader (Leads : UnitPlace → UnitPlace → Type 0) (n : NoteParts) (places : List UnitPlace) (p : UnitPlace)
    : Type 0 where
  is_one : In p places
  touched : IsTouched n p
  leads : (q : UnitPlace) → In q places → IsTouched n q → Leads p q

abbrev IsChosen : (UnitPlace → UnitPlace → Type 0) → NoteParts → List UnitPlace → Option UnitPlace → Type 0
IsChosen Leads n places None = (p : UnitPlace) → In p places → IsTouched n p → ⊥
IsChosen Leads n places (Some p) = IsLeader Leads n places p

-- What holds of a place and of all others holds of each.
each : {P : UnitPlace → Type 0} (p : UnitPlace) (places : List UnitPlace) → P p
    → ((q : UnitPlace) → In q places → P q) → (q : UnitPlace) → In q (p ∷ places) → P q
each {P} p places here others q (inl e) = subst P (sym e) here
each {P} p places here others q (inr i) = others q i

module _ {goes_before : UnitPlace → UnitPlace → Bool} {Leads : UnitPlace → UnitPlace → Type 0}
    (o : IsLeading goes_before Leads) where
  -- The note touches one place more.
  touches_more : (n : NoteParts) (p : UnitPlace) (places : List UnitPlace) (of : Option UnitPlace) → IsTouched n p
      → IsChosen Leads n places of → IsChosen Leads n (p ∷ places) (Some (chosen goes_before p of))
  touches_more n p places None h none = record {
    is_one = inl refl;
    touched = h;
    leads = each {P = λ q. IsTouched n q → Leads p q} p places (λ _. o.itself p) (λ q i t. absurd (none q i t));
  }
  touches_more n p places (Some b) h is =
      elim (goes_before b p) as (λ t. goes_before b p ≡ t → IsLeader Leads n (p ∷ places) (cond t b p)) [
        | true ↦ λ t. record {
          is_one = inr is.is_one;
          touched = is.touched;
          leads = each {P = λ q. IsTouched n q → Leads b q} p places (λ _. o.before b p t) is.leads;
        }
        | false ↦ λ t. record {
          is_one = inl refl;
          touched = h;
          leads = each {P = λ q. IsTouched n q → Leads p q} p places (λ _. o.itself p)
              (λ q i k. o.along p b q (o.behind b p t) (is.leads q i k));
        }
      ] refl

  -- It doesn't touch one more.
  touches_no_more : (n : NoteParts) (p : UnitPlace) (places : List UnitPlace) (of : Option UnitPlace)
      → (IsTouched n p → ⊥) → IsChosen Leads n places of → IsChosen Leads n (p ∷ places) of
  touches_no_more n p places None h none = each {P = λ q. IsTouched n q → ⊥} p places h none
  touches_no_more n p places (Some b) h is = record {
    is_one = inr is.is_one;
    touched = is.touched;
    leads = each {P = λ q. IsTouched n q → Leads b q} p places (λ k. absurd (h k)) is.leads;
  }

  first_is_chosen : (n : NoteParts) (places : List UnitPlace)
      → IsChosen Leads n places (first_touched goes_before n places)
  first_is_chosen n [] = λ p i _. i
  first_is_chosen n (p ∷ places) =
      grind (arith, touches_more, touched, touches_no_more, untouched, first_is_chosen n places)

-- A number is below another, or equal to it and a second is no greater than a second: the order of pairs.
abbrev IsNoGreater : ℕ → ℕ → ℕ → ℕ → Type 0
IsNoGreater a x b y = (a < b) ⊎ ((a ≡ b) × (x ≤ y))

along_pairs : (a x b y d z : ℕ) → IsNoGreater a x b y → IsNoGreater b y d z → IsNoGreater a x d z
along_pairs a x b y d z (inl h) (inl k) = inl (omega arith)
along_pairs a x b y d z (inl h) (inr k) = inl (omega arith)
along_pairs a x b y d z (inr h) (inl k) = inl (omega arith)
along_pairs a x b y d z (inr h) (inr k) = inr (omega arith, omega arith)

leads_first : IsLeading begins_before (λ p q. IsNoGreater p.extent.start p.unit q.extent.start q.unit)
leads_first = record {
  itself = λ p. inr (refl, omega arith);
  along = λ p q r. along_pairs p.extent.start p.unit q.extent.start q.unit r.extent.start r.unit;
  before = λ p q t. elim (or_cases _ _ t) [
    | inl h ↦ inl (ltb-true _ _ h)
    | inr h ↦
        let parts = and_parts _ _ h in
        let unit : p.unit < q.unit = ltb-true _ _ parts.1 in
        inr (eqb-true _ _ parts.0, omega arith)
  ];
  behind = λ p q f.
      let parts = or_parts _ _ f in
      let start : q.extent.start ≤ p.extent.start = ltb-false _ _ parts.0 in
      elim (cases_eq q.extent.start p.extent.start) [
        | inl e ↦ elim (and_cases _ _ parts.1) [
          | inl k ↦ absurd (eqb-false _ _ k (sym e))
          | inr k ↦ inr (e, ltb-false _ _ k)
        ]
        | inr k ↦ inl (omega (arith, k))
      ];
}

leads_last : IsLeading ends_behind (λ p q. IsNoGreater (asked_end q.extent) q.unit (asked_end p.extent) p.unit)
leads_last = record {
  itself = λ p. inr (refl, omega arith);
  along = λ p q r h k. along_pairs (asked_end r.extent) r.unit (asked_end q.extent) q.unit
      (asked_end p.extent) p.unit k h;
  before = λ p q t. elim (or_cases _ _ t) [
    | inl h ↦ inl (ltb-true _ _ h)
    | inr h ↦
        let parts = and_parts _ _ h in
        let unit : q.unit < p.unit = ltb-true _ _ parts.1 in
        inr (sym (eqb-true _ _ parts.0), omega arith)
  ];
  behind = λ p q f.
      let parts = or_parts _ _ f in
      let end : (asked_end p.extent) ≤ (asked_end q.extent) = ltb-false _ _ parts.0 in
      elim (cases_eq (asked_end p.extent) (asked_end q.extent)) [
        | inl e ↦ elim (and_cases _ _ parts.1) [ inl k ↦ absurd (eqb-false _ _ k e) | inr k ↦ inr (e, ltb-false _ _ k) ]
        | inr k ↦ inl (omega (arith, k))
      ];
}

spanned : (n : NoteParts) (places : List UnitPlace) (p q : Option UnitPlace)
    → IsChosen (λ p q. IsNoGreater p.extent.start p.unit q.extent.start q.unit) n places p
    → IsChosen (λ p q. IsNoGreater (asked_end q.extent) q.unit (asked_end p.extent) p.unit) n places q
    → AreUnitsOf places n (span_of p q)
spanned n places None q first last = first
spanned n places (Some p) None first last = last
spanned n places (Some p) (Some q) first last = (
  record { place = p; is_one = first.is_one; touched = first.touched; unit_is = refl; first = first.leads },
  record { place = q; is_one = last.is_one; touched = last.touched; unit_is = refl; last = last.leads },
)

-- What is found is by the relation.
pub touched_are : (places : List UnitPlace) (n : NoteParts) → AreUnitsOf places n (units_touched places n)
unfolding units_touched
touched_are places n = spanned n places (first_touched begins_before n places) (first_touched ends_behind n places)
    (first_is_chosen leads_first n places) (first_is_chosen leads_last n places)

-- Two pairs each of which is no greater than the other.
same_unit : (a b x y p q : ℕ) → p ≡ x → q ≡ y → IsNoGreater a x b q → IsNoGreater b y a p → x ≡ y
same_unit a b x y p q e f (inl h) (inl k) = absurd (omega arith)
same_unit a b x y p q e f (inl h) (inr k) = absurd (omega arith)
same_unit a b x y p q e f (inr h) (inl k) = absurd (omega arith)
same_unit a b x y p q e f (inr h) (inr k) = omega arith

one_first : (places : List UnitPlace) (n : NoteParts) (x y : ℕ) → IsFirstTouched places n x → IsFirstTouched places n y
    → x ≡ y
one_first places n x y a b =
    same_unit a.place.extent.start b.place.extent.start x y a.place.unit b.place.unit a.unit_is b.unit_is
    (a.first b.place b.is_one b.touched) (b.first a.place a.is_one a.touched)

one_last : (places : List UnitPlace) (n : NoteParts) (x y : ℕ) → IsLastTouched places n x → IsLastTouched places n y
    → x ≡ y
one_last places n x y a b = grind (arith, same_unit)

one_span : (places : List UnitPlace) (n : NoteParts) (a b : Option UnitSpan) → AreUnitsOf places n a
    → AreUnitsOf places n b → a ≡ b
one_span places n None None f g = refl
one_span places n None (Some t) f g = absurd (f g.0.place g.0.is_one g.0.touched)
one_span places n (Some s) None f g = absurd (g f.0.place f.0.is_one f.0.touched)
one_span places n (Some s) (Some t) f g = grind (arith, one_first, one_last)

-- What is by the relation is found.
pub touched_is : (places : List UnitPlace) (n : NoteParts) (s : Option UnitSpan) → AreUnitsOf places n s
    → s ≡ units_touched places n
touched_is places n s h = one_span places n s (units_touched places n) h (touched_are places n)
