-- Up to where units reach.
use Rattle.mxf_views.proofs.Common.{◌≡◌, ◌∙◌, ◌↔◌, ◌+◌, ◌^◌, ◌≤◌, ◌⊎◌, ◌&&◌, ℕ, Bool, true, false, not, List, Option}
use Rattle.mxf_views.proofs.Common.{None, Some, ap, arith, if◌then◌else◌, inl, inr, lt-ltb, ltb-true, nat_lt}
use Rattle.mxf_views.proofs.Common.{option_and_then, refl, subst, sym, and_from, and_parts, cases_lt, le-ltb}
use Rattle.mxf_views.proofs.Common.{option_map_or, NoteParts, list_any-In, IsGiven, SegmentAtParts, segments_of}
use Rattle.mxf_views.specs.declared.index.place.StreamPlace.{StreamPlace}
use Rattle.mxf_units.specs.declared.essence_zone.EssenceZone.{EssenceZone}
use Rattle.mxf_units.specs.Extents.{HasOffset, IsEndPlaceOf, IsExtentEnd, IsNextUnit, IsWithin}
use Rattle.mxf_units.specs.Streams.{IsNext, IsNextOf, is_given, is_same_place, next_of, segments_for}
use Rattle.mxf_units.specs.Units.{end_place, extent_in, file_offset, has_next_unit, is_behind}
use Rattle.mxf_units.proofs.NextLaws.{next-told}
use Rattle.mxf_units.proofs.StandingPlaces.{In-given, given-In, given_places}
use Rattle.mxf_units.proofs.WalkLaws.{any_given, itself_place, same_place}

-- ---- where offsets of a stream lie in the file

pub in_zone : (zone : EssenceZone) (offset : ℕ) → zone.body_offset ≤ offset
    → HasOffset zone offset (file_offset zone offset)
in_zone zone offset low = (low, omega (arith, low))

pub offset_is : (zone : EssenceZone) (offset x : ℕ) → HasOffset zone offset x → file_offset zone offset ≡ x
offset_is zone offset x h = let low = h.0 in let e = h.1 in omega (arith, low, e)

-- ---- the limit

within-is : (zone : EssenceZone) (offset : ℕ) → is_behind zone offset ≡ false → IsWithin zone offset
within-is zone offset f limit x is has =
    elim (nat_lt limit (file_offset zone offset)) as (λ b. nat_lt limit (file_offset zone offset) ≡ b → x ≤ limit) [
      | true ↦ λ e.
          let t = ap (λ (o : Option ℕ). option_map_or (λ l. nat_lt l (file_offset zone offset)) o false) is ∙ e in
          absurd (cc (t, f))
      | false ↦ λ e. let l = not_less limit (file_offset zone offset) e in let h = offset_is zone offset x has in
          omega (arith, l, h)
    ] refl
  where
    not_less : (a b : ℕ) → nat_lt a b ≡ false → b ≤ a
    not_less a b e = elim (cases_lt a b) [ inl l ↦ let t = lt-ltb a b l in absurd (cc (t, e)) | inr h ↦ h ]

is-within : (zone : EssenceZone) (offset : ℕ) → zone.body_offset ≤ offset → IsWithin zone offset
    → is_behind zone offset ≡ false
is-within zone offset low within = elim zone.limit as (λ (o : Option ℕ). zone.limit ≡ o
    → option_map_or (λ l. nat_lt l (file_offset zone offset)) o false ≡ false) [
      | None ↦ λ e. refl
      | Some limit ↦ λ e. le-ltb limit (file_offset zone offset)
          (within limit (file_offset zone offset) e (in_zone zone offset low))
    ] refl

module _ (notes : List NoteParts) (index_sid unit : ℕ) where
  abbrev segments : List SegmentAtParts
  segments = segments_for notes index_sid

  -- ---- the unit after

  given-says : (p : StreamPlace)
      → (is_given p (unit + 1) segments ≡ true) ↔ IsGiven (segments_of notes) index_sid (unit + 1) p
  given-says p =
      let places = given_places notes index_sid (unit + 1) in
      let same = any_given p (unit + 1) segments in
      let any = list_any-In (is_same_place p) places in (
        λ h.
            let s = any.0 (sym same ∙ h) in
            subst (λ q. IsGiven (segments_of notes) index_sid (unit + 1) q) (sym (same_place p s.0 s.2))
            (In-given notes index_sid (unit + 1) s.0 s.1),
        λ g. same ∙ any.1 (p, given-In notes index_sid (unit + 1) p g, itself_place p p refl),
      )

  next_unit-says : (p : StreamPlace)
      → (has_next_unit segments unit p ≡ true) ↔ IsNextUnit notes index_sid unit p.body_sid p.offset
  next_unit-says p = (
    λ h.
        let s = and_parts (nat_lt (unit + 1) (2 ^ 64)) (is_given p (unit + 1) segments) h in
        (ltb-true _ _ s.0, (given-says p).0 s.1),
    λ o. and_from (nat_lt (unit + 1) (2 ^ 64)) (is_given p (unit + 1) segments) (lt-ltb _ _ o.0) ((given-says p).1 o.1),
  )

  module _ (body_sid offset : ℕ) (zone : EssenceZone) where
    -- ---- the next place, if it counts

    abbrev IsEnd : Option ℕ → Type 0
    IsEnd = IsEndPlaceOf notes index_sid unit body_sid offset zone

    one_next : (x y : ℕ) → IsNext segments body_sid offset x → IsNext segments body_sid offset y → x ≡ y
    one_next x y f g =
        let l = f.least y g.given g.above in let m = g.least x f.given f.above in omega (arith, l, m)

    abbrev place : ℕ → StreamPlace
    place next = record { body_sid = body_sid; offset = next }

    abbrev is_far : ℕ → Bool
    is_far next = is_behind zone next && not (has_next_unit segments unit (place next))

    far-says : (next : ℕ) → zone.body_offset ≤ next → is_far next ≡ true
        → (IsWithin zone next → ⊥) × (IsNextUnit notes index_sid unit body_sid next → ⊥)
    far-says next low h =
        let s = and_parts (is_behind zone next) (not (has_next_unit segments unit (place next))) h in (
          λ w. let f = is-within zone next low w in let t = s.0 in cc (f, t),
          λ n. let t = (next_unit-says (place next)).1 n in let f = s.1 in cc (f, t),
        )

    near-says : (next : ℕ) (a b : Bool) → is_behind zone next ≡ a → has_next_unit segments unit (place next) ≡ b
        → (a && not b) ≡ false → IsWithin zone next ⊎ IsNextUnit notes index_sid unit body_sid next
    near-says next false b e f h = inl (within-is zone next e)
    near-says next true true e f h = inr ((next_unit-says (place next)).0 f)
    near-says next true false e f h = absurd cc

    end_by : (next : Option ℕ) → zone.body_offset ≤ offset → IsNextOf segments body_sid offset next
        → IsEnd (option_and_then (λ next. if is_far next then None else Some next) next)
    end_by None low is = λ other p.
        let l = is other p.next_is.given in let m = p.next_is.above in omega (arith, l, m)
    end_by (Some next) low is =
        elim (is_far next) as (λ b. is_far next ≡ b → IsEnd (if b then None else Some next)) [
          | true ↦ λ e other p.
              let same = one_next other next p.next_is is in
              let above = is.above in
              let far = far-says next (omega (arith, low, above)) e in
              elim p.counts [
                | inl w ↦ far.0 (subst (IsWithin zone) same w)
                | inr n ↦ far.1 (subst (IsNextUnit notes index_sid unit body_sid) same n)
              ]
          | false ↦ λ e. record { next_is = is; counts = near-says next _ _ refl refl e }
        ] refl

    pub end_place-told : zone.body_offset ≤ offset → IsEnd (end_place segments zone unit body_sid offset)
    end_place-told low = end_by (next_of segments body_sid offset) low (next-told segments body_sid offset)

    pub same_end : (a b : Option ℕ) → IsEnd a → IsEnd b → a ≡ b
    same_end None None f g = refl
    same_end None (Some y) f g = absurd (f y g)
    same_end (Some x) None f g = absurd (g x f)
    same_end (Some x) (Some y) f g = ap (λ (n : ℕ). Some n) (one_next x y f.next_is g.next_is)

    pub end_place-is : (end : Option ℕ) → zone.body_offset ≤ offset
        → (end_place segments zone unit body_sid offset ≡ end) ↔ IsEnd end
    end_place-is end low = (
      λ e. subst IsEnd e (end_place-told low),
      λ is. same_end (end_place segments zone unit body_sid offset) end (end_place-told low) is,
    )

    -- ---- where the bytes end

    abbrev Ends : Option ℕ → Type 0
    Ends = IsExtentEnd notes index_sid unit body_sid offset zone

    ends-by : (end : Option ℕ) → zone.body_offset ≤ offset → IsEnd end → Ends (extent_in zone offset end).end
    ends-by (Some next) low is =
        let above = is.next_is.above in inl (next, is, in_zone zone next (omega (arith, low, above)))
    ends-by None low last =
        elim zone.is_sure as (λ b. zone.is_sure ≡ b → Ends (if b then zone.limit else None)) [
          | true ↦ λ e. elim zone.limit as (λ (o : Option ℕ). zone.limit ≡ o → Ends o) [
            | None ↦ λ f. (last, λ limit s t. cc (f, t))
            | Some limit ↦ λ f. inr (last, e, f)
          ] refl
          | false ↦ λ e. (last, λ limit s t. cc (e, s))
        ] refl

    pub extent_end-told : zone.body_offset ≤ offset
        → Ends (extent_in zone offset (end_place segments zone unit body_sid offset)).end
    extent_end-told low = ends-by (end_place segments zone unit body_sid offset) low (end_place-told low)

    no_limit : (b : Bool) (o : Option ℕ) → ((limit : ℕ) → b ≡ true → o ≡ Some limit → ⊥)
        → (if b then o else None) ≡ None
    no_limit false o f = refl
    no_limit true None f = refl
    no_limit true (Some limit) f = absurd (f limit refl refl)

    says_end : (end : Option ℕ) → zone.body_offset ≤ offset → Ends end
        → (extent_in zone offset (end_place segments zone unit body_sid offset)).end ≡ end
    says_end (Some end) low (inl n) = ap (λ o. (extent_in zone offset o).end) ((end_place-is (Some n.0) low).1 n.1)
        ∙ ap (λ (x : ℕ). Some x) (offset_is zone n.0 end n.2)
    says_end (Some end) low (inr last) = ap (λ o. (extent_in zone offset o).end) ((end_place-is None low).1 last.0)
        ∙ ap (λ b. if b then zone.limit else None) last.1 ∙ last.2
    says_end None low last = ap (λ o. (extent_in zone offset o).end) ((end_place-is None low).1 last.0)
        ∙ no_limit zone.is_sure zone.limit last.1

    pub extent_end-is : (end : Option ℕ) → zone.body_offset ≤ offset
        → ((extent_in zone offset (end_place segments zone unit body_sid offset)).end ≡ end) ↔ Ends end
    extent_end-is end low = (λ e. subst Ends e (extent_end-told low), λ is. says_end end low is)
