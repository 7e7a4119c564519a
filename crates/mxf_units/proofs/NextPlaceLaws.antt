-- The next place by what segments list and by units of one size.
use Rattle.mxf_views.proofs.Common.{◌≡◌, ◌∙◌, ◌<◌, ◌≤◌, ◌+◌, ◌-◌, ◌*◌, ◌/◌, ◌^◌, ◌++◌, ◌==◌, ◌&&◌, ◌||◌, ℕ, Bool, true}
use Rattle.mxf_views.proofs.Common.{false, List, [], ◌∷◌, Option, None, Some, refl, sym, ap, subst, inl, inr, arith}
use Rattle.mxf_views.proofs.Common.{eq-eqb, eqb-true, filter_map, flat_map, if◌then◌else◌, lt-ltb, ltb-true, max, min}
use Rattle.mxf_views.proofs.Common.{nat_lt, option_map, unsigned_abs, mul-le-mul_left, cases_lt, le-leb}
use Rattle.mxf_views.proofs.Common.{filter_map-append, Contains-permutation, IsPermutation-sym, AllByRecursion}
use Rattle.mxf_views.proofs.Common.{cons_option, IsNonDecreasingBy, IsPermutation, In, SameMembers, Contains-from_In}
use Rattle.mxf_views.proofs.Common.{In-append, In-filter_map, In-from_Contains, all-In, all_from_In, covers_constant}
use Rattle.mxf_views.proofs.Common.{covers_entry, entry_offset, is_constant, SegmentAtParts, in_stream, place_in}
use Rattle.mxf_sets.specs.declared.segment.numbers.SegmentNumbers.{SegmentNumbers}
use Rattle.mxf_views.specs.declared.index.place.StreamPlace.{StreamPlace}
use Rattle.std.proofs.Common.{slice_get}
use Rattle.std.specs.Option.{option_and_then}
use Rattle.mxf_units.specs.NextPlaces.{AreNextPlaces, AreSized, constant_units, end_number, first_number}
use Rattle.mxf_units.specs.NextPlaces.{greatest_offset, number_of, place_above}
use Rattle.mxf_units.specs.Intervals.{IsAround}
use Rattle.mxf_units.specs.Streams.{in_order, least_above, lesser, listed_in, offset_above, offset_in, offsets_in}
use Rattle.mxf_units.specs.Streams.{sized_above}
use Rattle.mxf_units.specs.declared.constant_units.ConstantUnits.{ConstantUnits}
use Rattle.mxf_units.proofs.LeastLaws.{IsLeast, least-append, least-in_order, least-is, least-same, next-parts}
use Rattle.mxf_units.proofs.LeastLaws.{offset_in-says, one_least}
use Rattle.mxf_units.proofs.NextLaws.{begins_behind, first_behind}

-- ---- members and their order

-- A list in another order has the same members.
pub permuted : {K : Type 0} (xs ys : List K) → IsPermutation xs ys → SameMembers ys xs
permuted xs ys p x = (
  λ h. In-from_Contains x xs (Contains-permutation ys xs x (IsPermutation-sym xs ys p) (Contains-from_In x ys h)),
  λ h. In-from_Contains x ys (Contains-permutation xs ys x p (Contains-from_In x xs h)),
)

pub all_permuted : {K : Type 0} (P : K → Type 0) (xs ys : List K) → IsPermutation xs ys → AllByRecursion P xs
    → AllByRecursion P ys
all_permuted P xs ys p all = all_from_In P ys (λ x h. all-In P xs x all ((permuted xs ys p x).0 h))

pub same-filter_map : {K L : Type 0} (f : K → Option L) (xs ys : List K) → SameMembers xs ys
    → SameMembers (filter_map f xs) (filter_map f ys)
same-filter_map f xs ys same y =
    let a = In-filter_map f xs y in
    let b = In-filter_map f ys y in (
      λ h. let s = a.0 h in b.1 (s.0, (same s.0).0 s.1, s.2),
      λ h. let s = b.0 h in a.1 (s.0, (same s.0).1 s.1, s.2),
    )

-- What holds of all holds of those that lie around a number.
pub all_around : {K : Type 0} (first end : K → ℕ) (P : K → Type 0) (at : ℕ) (all near above : List K)
    → IsAround first end at all near above → AllByRecursion P all → AllByRecursion P near × AllByRecursion P above
all_around {K} first end P at all near above around holds = (
  all_from_In P near (λ x h. behind x ((In-append x near above).1 (inl h))),
  all_from_In P above (λ x h. behind x ((In-append x near above).1 (inr h))),
)
  where
    behind : (x : K) → In x (near ++ above) → P x
    behind x h = all-In P all x holds
        (subst (In x) (sym around.parts) ((In-append x around.ended (near ++ above)).1 (inr h)))

-- ---- units of one size as those of a segment

module _ (offset : ℕ) (s : SegmentAtParts) where
  abbrev n : SegmentNumbers
  n = s.segment.numbers

  abbrev start : ℕ
  start = unsigned_abs n.start

  abbrev duration : ℕ
  duration = unsigned_abs n.duration

  abbrev unit : ℕ
  unit = max start (offset / n.unit_bytes + 1)

  abbrev own_units : ConstantUnits
  own_units = record { body_sid = n.body_sid; unit_bytes = n.unit_bytes; start = start; duration = duration }

  abbrev goes_on_there : Bool
  goes_on_there = (duration == 0) || nat_lt unit (start + duration)

  abbrev by_size : Option ℕ
  by_size = if covers_constant s.segment unit then Some (n.unit_bytes * unit) else None

  abbrev by_entry : Option ℕ
  by_entry = if covers_entry s.segment unit then Some (entry_offset s.segment (unit - start)) else None

  one_form : (b : Bool) → option_map (in_stream s) (if b then Some (n.unit_bytes * unit) else None)
      ≡ (if b then Some (in_stream s (n.unit_bytes * unit)) else None)
  one_form true = refl
  one_form false = refl

  pub sized_units : sized_above offset s ≡ option_and_then (place_above offset) (constant_units s)
  unfolding sized_above
  sized_units = elim (is_constant n) as (λ b. is_constant n ≡ b → (if b then place_in unit s else None)
      ≡ option_and_then (place_above offset) (if b then Some own_units else None)) [
        | true ↦ λ e. ap (λ b. option_map (in_stream s) (if b then by_size else by_entry)) e
            ∙ ap (λ b. option_map (in_stream s) (if b && goes_on_there then Some (n.unit_bytes * unit) else None))
            (le-leb start unit (omega arith)) ∙ one_form goes_on_there
        | false ↦ λ e. refl
      ] refl

units-places : (offset : ℕ) (segments : List SegmentAtParts) → filter_map (sized_above offset) segments
    ≡ filter_map (place_above offset) (filter_map constant_units segments)
units-places offset [] = refl
units-places offset (s ∷ segments) =
    ap (λ o. cons_option o (filter_map (sized_above offset) segments)) (sized_units offset s)
    ∙ ap (cons_option (option_and_then (place_above offset) (constant_units s))) (units-places offset segments)
    ∙ onto (constant_units s) (filter_map constant_units segments)
  where
    onto : (o : Option ConstantUnits) (cs : List ConstantUnits)
        → cons_option (option_and_then (place_above offset) o) (filter_map (place_above offset) cs)
        ≡ filter_map (place_above offset) (cons_option o cs)
    onto None cs = refl
    onto (Some c) cs = refl

-- The next place of segments, by what they list and by their units of one size in any order.
pub next-of_segments : (segments : List SegmentAtParts) (listed : List StreamPlace) (units sorted : List ConstantUnits)
    → listed ≡ in_order (flat_map listed_in segments) → units ≡ filter_map constant_units segments
    → IsPermutation units sorted → AreNextPlaces segments (record { listed = listed; units = sorted })
next-of_segments segments listed units sorted is_listed are p body offset =
    let least = λ (ps : List StreamPlace). least_above offset (offsets_in body ps) in
    let f = place_above offset in
    let places = same-filter_map f sorted units (permuted units sorted p) in
    (λ i. lesser (least (is_listed i)) (least (filter_map f sorted)))
    ∙ (λ i. lesser (least-in_order body offset (flat_map listed_in segments) i)
    (least-same offset (offsets_in body (filter_map f sorted)) (offsets_in body (filter_map f units))
    (same-filter_map (offset_in body) (filter_map f sorted) (filter_map f units) places) i))
    ∙ (λ i. lesser (least (flat_map listed_in segments)) (least (filter_map f (are i))))
    ∙ (λ i. lesser (least (flat_map listed_in segments)) (least (sym (units-places offset segments) i)))
    ∙ next-parts body offset (flat_map listed_in segments) (filter_map (sized_above offset) segments)

-- ---- one more

-- ---- around an offset

module _ (body offset : ℕ) (low : offset < 2 ^ 96) where
  abbrev Offsets : List ConstantUnits → List ℕ
  Offsets cs = offsets_in body (filter_map (place_above offset) cs)

  abbrev unit_of : ConstantUnits → ℕ
  unit_of c = max c.start (offset / c.unit_bytes + 1)

  abbrev goes_on : ConstantUnits → Bool
  goes_on c = (c.duration == 0) || nat_lt (unit_of c) (c.start + c.duration)

  -- An offset of the stream is that of a unit of one of them.
  offset-of : (cs : List ConstantUnits) (x : ℕ) → In x (Offsets cs)
      → (c : ConstantUnits) × In c cs × (c.body_sid ≡ body) × (goes_on c ≡ true) × (x ≡ c.unit_bytes * unit_of c)
  offset-of cs x h =
      let s = (In-filter_map (offset_in body) (filter_map (place_above offset) cs) x).0 h in
      let t = (In-filter_map (place_above offset) cs s.0).0 s.1 in
      let in_body = offset_in-says body x s.0 s.2 in
      let c = t.0 in
      let g = guarded (goes_on c) (record { body_sid = c.body_sid; offset = c.unit_bytes * unit_of c }) s.0 t.2 in (
        c,
        t.1,
        ap (λ (p : StreamPlace). p.body_sid) g.1 ∙ in_body.0,
        g.0,
        sym (ap (λ (p : StreamPlace). p.offset) g.1 ∙ in_body.1),
      )
    where
      guarded : (b : Bool) (p q : StreamPlace) → (if b then Some p else None) ≡ Some q → (b ≡ true) × (p ≡ q)
      guarded true p q e = (refl, cc)
      guarded false p q e = absurd cc

  -- Units that end below it have no offset above it.
  ended_no : (c : ConstantUnits) → AreSized c → end_number c < number_of body offset → c.body_sid ≡ body
      → goes_on c ≡ true → ⊥
  ended_no c sized ended same on = elim (c.duration == 0) as (λ b. ((c.body_sid * 2 ^ 96)
      + (if b then greatest_offset else min (c.unit_bytes * (c.start + c.duration)) greatest_offset)
      < number_of body offset) → (b || nat_lt (unit_of c) (c.start + c.duration)) ≡ true → ⊥) [
        | true ↦ λ e t. omega (arith, e, same, low)
        | false ↦ λ e t.
            let l : unit_of c < c.start + c.duration = ltb-true _ _ t in
            let m = begins_behind c.unit_bytes offset (c.start + c.duration) sized.some (omega (arith, l)) in
            omega (arith, e, same, low, m)
      ] ended on

  pub ended_none : (cs : List ConstantUnits) → AllByRecursion AreSized cs
      → AllByRecursion (λ c. end_number c < number_of body offset) cs → Offsets cs ≡ []
  ended_none cs sized ended = none (Offsets cs) (λ x h.
      let s = offset-of cs x h in
      ended_no s.0 (all-In AreSized cs s.0 sized s.1)
      (all-In (λ c. end_number c < number_of body offset) cs s.0 ended s.1)
      s.2 s.3)
    where
      none : (xs : List ℕ) → ((x : ℕ) → In x xs → ⊥) → xs ≡ []
      none [] f = refl
      none (x ∷ xs) f = absurd (f x (inl refl))

  -- The least of all is the lesser one of those that may have it and of those that begin above it.
  pub around-least : (all near above : List ConstantUnits) → AllByRecursion AreSized all
      → (around : IsAround first_number end_number (number_of body offset) all near above)
      → lesser (least_above offset (Offsets near)) (least_above offset (Offsets above))
      ≡ least_above offset (Offsets all)
  around-least all near above sized around =
      let ended = around.ended in
      let ended_sized = all_from_In AreSized ended (λ c h.
      all-In AreSized all c sized (subst (In c) (sym around.parts) ((In-append c ended (near ++ above)).1 (inl h)))) in
      sym (least-append offset (Offsets near) (Offsets above)) ∙ ap (least_above offset) (sym (split near above))
      ∙ ap (λ (xs : List ℕ). least_above offset (xs ++ Offsets (near ++ above)))
      (sym (ended_none ended ended_sized around.below)) ∙ ap (least_above offset) (sym (split ended (near ++ above)))
      ∙ ap (λ cs. least_above offset (Offsets cs)) (sym around.parts)
    where
      split : (xs ys : List ConstantUnits) → Offsets (xs ++ ys) ≡ Offsets xs ++ Offsets ys
      split xs ys = ap (offsets_in body) (filter_map-append (place_above offset) xs ys)
          ∙ filter_map-append (offset_in body) (filter_map (place_above offset) xs) (filter_map (place_above offset) ys)

  -- ---- those that begin above it

  abbrev pub first_of : List ConstantUnits → Option ℕ
  first_of [] = None
  first_of (c ∷ cs) = option_and_then (offset_above body offset) (place_above offset c)

  first-least : (cs : List ConstantUnits) → AllByRecursion AreSized cs
      → AllByRecursion (λ c. number_of body offset < first_number c) cs → IsNonDecreasingBy first_number cs
      → IsLeast offset (Offsets cs) (first_of cs)
  first-least [] sized behind rising = λ x h. absurd h
  first-least (c ∷ cs) sized behind rising = elim (c.body_sid == body) as (λ b. (c.body_sid == body) ≡ b
      → IsLeast offset (Offsets (c ∷ cs)) (first_of (c ∷ cs))) [
        | true ↦ λ e.
            let same = eqb-true c.body_sid body e in
            let small = sized.0.small in
            let over : number_of body offset < first_number c = behind.0 in
            let above : offset < c.unit_bytes * c.start = omega (arith, over, same) in
            let from = first_behind c.unit_bytes offset c.start sized.0.some above in
            let own : unit_of c ≡ c.start = omega (arith, from) in
            let is : first_of (c ∷ cs) ≡ Some (c.unit_bytes * c.start) = own_first c own e above in
            subst (IsLeast offset (Offsets (c ∷ cs))) (sym is) (
              subst (λ (o : Option StreamPlace). In (c.unit_bytes * c.start)
                  (offsets_in body (cons_option o (filter_map (place_above offset) cs))))
                  (sym (own_place c own)) (subst (λ b. In (c.unit_bytes * c.start)
                  (cons_option (if b then Some (c.unit_bytes * c.start) else None) (Offsets cs))) (sym e) (inl refl)),
              above,
              λ x h l.
                  let s = offset-of (c ∷ cs) x h in
                  let q = s.0 in
                  let first = first_first c cs q rising s.1 in
                  let more = mul-le-mul_left q.unit_bytes (late q) in
                  let in_body = s.2 in
                  let at = s.4 in
                  omega (arith, first, more, in_body, at, same),
            )
        | false ↦ λ e.
            let other : c.body_sid ≡ body → ⊥ = λ f. let t = eq-eqb c.body_sid body f in cc (t, e) in
            let is : first_of (c ∷ cs) ≡ None = no_first c e in
            subst (IsLeast offset (Offsets (c ∷ cs))) (sym is) (λ x h.
            let s = offset-of (c ∷ cs) x h in
            let q = s.0 in
            let first = first_first c cs q rising s.1 in
            let small = (all-In AreSized (c ∷ cs) q sized s.1).small in
            let over : number_of body offset < first_number c = behind.0 in
            let in_body = s.2 in
            absurd (other (omega (arith, first, small, over, in_body, sized.0.small))))
      ] refl
    where
      late : (q : ConstantUnits) → q.start ≤ unit_of q
      late q = omega arith

      first_first : (c : ConstantUnits) (cs : List ConstantUnits) (q : ConstantUnits)
          → IsNonDecreasingBy first_number (c ∷ cs) → In q (c ∷ cs) → first_number c ≤ first_number q
      first_first c cs q rising h =
          let k = Contains-from_In q (c ∷ cs) h in
          let up = rising 0 k.0 q (omega arith) k.1 in
          subst (λ (x : ConstantUnits). first_number c ≤ first_number x) k.2 up

      goes : (c : ConstantUnits) → unit_of c ≡ c.start → goes_on c ≡ true
      goes c own = elim (c.duration == 0) as (λ b. (c.duration == 0) ≡ b
          → (b || nat_lt (unit_of c) (c.start + c.duration)) ≡ true) [
            | true ↦ λ e. refl
            | false ↦ λ e.
                lt-ltb (unit_of c) (c.start + c.duration) (elim (cases_lt 0 c.duration) [
                  | inl some ↦ omega (arith, own, some)
                  | inr none ↦ absurd (let t = eq-eqb c.duration 0 (omega (arith, none)) in cc (t, e))
                ])
          ] refl

      own_place : (c : ConstantUnits) → unit_of c ≡ c.start
          → place_above offset c ≡ Some (record { body_sid = c.body_sid; offset = c.unit_bytes * c.start })
      own_place c own =
          ap (λ b. if b then Some (record { body_sid = c.body_sid; offset = c.unit_bytes * unit_of c }) else None)
          (goes c own) ∙ ap (λ u. Some (record { body_sid = c.body_sid; offset = c.unit_bytes * u })) own

      own_first : (c : ConstantUnits) → unit_of c ≡ c.start → (c.body_sid == body) ≡ true
          → offset < c.unit_bytes * c.start
          → option_and_then (offset_above body offset) (place_above offset c) ≡ Some (c.unit_bytes * c.start)
      own_first c own e above = ap (option_and_then (offset_above body offset)) (own_place c own)
          ∙ ap (λ b. if b then (if c.body_sid == body then Some (c.unit_bytes * c.start) else None) else None)
          (lt-ltb offset (c.unit_bytes * c.start) above) ∙ ap (λ b. if b then Some (c.unit_bytes * c.start) else None) e

      no_first : (c : ConstantUnits) → (c.body_sid == body) ≡ false
          → option_and_then (offset_above body offset) (place_above offset c) ≡ None
      no_first c e = elim (goes_on c) as (λ g. option_and_then (offset_above body offset)
          (if g then Some (record { body_sid = c.body_sid; offset = c.unit_bytes * unit_of c }) else None) ≡ None) [
            | true ↦ grind (arith, nat_lt)
            | false ↦ refl
          ]
        where
          either : (b : Bool) (o : Option ℕ) → o ≡ None → (if b then o else None) ≡ None
          either true o e = e
          either false o e = refl

  pub first-found : (cs : List ConstantUnits)
      → option_and_then (λ c. option_and_then (offset_above body offset) (place_above offset c)) (slice_get cs 0)
      ≡ first_of cs
  first-found [] = refl
  first-found (c ∷ cs) = refl

  pub first-is : (cs : List ConstantUnits) → AllByRecursion AreSized cs
      → AllByRecursion (λ c. number_of body offset < first_number c) cs → IsNonDecreasingBy first_number cs
      → first_of cs ≡ least_above offset (Offsets cs)
  first-is cs sized behind rising = one_least offset (Offsets cs) (first_of cs) (least_above offset (Offsets cs))
      (first-least cs sized behind rising) (least-is offset (Offsets cs))
