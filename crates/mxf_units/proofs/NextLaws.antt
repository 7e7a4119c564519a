-- The next place of a stream, by the least of some places and by all that segments give.
use Rattle.mxf_views.proofs.Common.{◌≡◌, ◌∙◌, ◌↔◌, ◌<◌, ◌≤◌, ◌+◌, ◌-◌, ◌*◌, ◌/◌, ◌%◌, ◌==◌, ◌&&◌, ◌||◌, ℕ, Bool, true}
use Rattle.mxf_views.proofs.Common.{false, List, Option, None, Some, refl, sym, ap, subst, inl, inr, arith, eq-eqb}
use Rattle.mxf_views.proofs.Common.{eqb-true, filter_map, flat_map, if◌then◌else◌, lt-ltb, ltb-true, max, nat_le}
use Rattle.mxf_views.proofs.Common.{nat_lt, option_map, unsigned_abs, mul-le-mul_left, and_from, and_parts, cases_lt}
use Rattle.mxf_views.proofs.Common.{le-leb, leb-true, range_with_len, In, NoteParts, In-append, In-filter}
use Rattle.mxf_views.proofs.Common.{In-filter_map, In-flat_map, covers_constant, covers_entry, entry_offset}
use Rattle.mxf_views.proofs.Common.{stream_offset, SegmentParts, entry_count, is_constant, SegmentAtParts, segments_of}
use Rattle.mxf_views.proofs.Common.{in_stream, place_in}
use Rattle.mxf_views.specs.declared.index.place.StreamPlace.{StreamPlace}
use Rattle.mxf_units.specs.Streams.{IsNextOf, IsStreamPlace, listed_in, next_of, offset_in, offsets_in, places_above}
use Rattle.mxf_units.specs.Streams.{segments_for, sized_above}
use Rattle.mxf_klv.proofs.Counts.{In-range}
use Rattle.mxf_units.proofs.LeastLaws.{IsLeast, least-is, offset_in-says}

-- ---- what segments give

-- The place of a unit is given.
placed : (s : SegmentAtParts) (unit : ℕ) (q : StreamPlace) → place_in unit s ≡ Some q
    → (s.segment.numbers.body_sid ≡ q.body_sid) × (stream_offset s.segment unit ≡ Some q.offset)
placed s unit q e = by_offset (stream_offset s.segment unit) e
  where
    by_offset : (o : Option ℕ) → option_map (in_stream s) o ≡ Some q
        → (s.segment.numbers.body_sid ≡ q.body_sid) × (o ≡ Some q.offset)
    by_offset None e = absurd cc
    by_offset (Some x) e =
        let t : in_stream s x ≡ q = cc in (
          ap (λ (p : StreamPlace). p.body_sid) t,
          ap (λ (p : StreamPlace). Some p.offset) t,
        )

given : (segments : List SegmentAtParts) (s : SegmentAtParts) (unit : ℕ) (q : StreamPlace) → In s segments
    → place_in unit s ≡ Some q → IsStreamPlace segments q.body_sid q.offset
given segments s unit q h e =
    let p = placed s unit q e in record { by = s; held = h; body = p.0; unit = unit; given = p.1 }

sized-given : (segments : List SegmentAtParts) (low : ℕ) (s : SegmentAtParts) (q : StreamPlace) → In s segments
    → sized_above low s ≡ Some q → IsStreamPlace segments q.body_sid q.offset
unfolding sized_above
sized-given segments low s q h e =
    let n = s.segment.numbers in
    let unit = max (unsigned_abs n.start) (low / n.unit_bytes + 1) in
    elim (is_constant n) as (λ b. (if b then place_in unit s else None) ≡ Some q
    → IsStreamPlace segments q.body_sid q.offset) [ true ↦ λ f. given segments s unit q h f | false ↦ λ f. absurd cc ] e

listed-given : (segments : List SegmentAtParts) (s : SegmentAtParts) (q : StreamPlace) → In s segments
    → In q (listed_in s) → IsStreamPlace segments q.body_sid q.offset
unfolding listed_in
listed-given segments s q h i =
    let units = range_with_len (unsigned_abs s.segment.numbers.start) (entry_count s.segment) in
    let k = (In-filter_map (λ unit. place_in unit s) units q).0 i in given segments s k.0 q h k.2

pub above-given : (segments : List SegmentAtParts) (low : ℕ) (q : StreamPlace) → In q (places_above low segments)
    → IsStreamPlace segments q.body_sid q.offset
above-given segments low q h =
    elim ((In-append q (flat_map listed_in segments) (filter_map (sized_above low) segments)).0 h) [
      | inl k ↦ let s = (In-flat_map listed_in segments q).0 k in listed-given segments s.0 q s.1 s.2
      | inr k ↦ let s = (In-filter_map (sized_above low) segments q).0 k in sized-given segments low s.0 q s.1 s.2
    ]

-- ---- each place above an offset, or a lesser one

-- A lesser place of the stream above the offset is among those that are looked at.
abbrev Reached : List SegmentAtParts → ℕ → ℕ → ℕ → Type 0
Reached segments body_sid low x =
    (q : StreamPlace) × In q (places_above low segments) × (q.body_sid ≡ body_sid) × (low < q.offset) × (q.offset ≤ x)

in_place : (s : SegmentAtParts) (unit x : ℕ) → stream_offset s.segment unit ≡ Some x
    → place_in unit s ≡ Some (in_stream s x)
in_place s unit x e = ap (λ (o : Option ℕ). option_map (in_stream s) o) e

pub guarded_true : (b : Bool) (x y : ℕ) → (if b then Some x else None) ≡ Some y → (b ≡ true) × (x ≡ y)
guarded_true true x y e = (refl, cc)
guarded_true false x y e = absurd cc

listed-reached : (segments : List SegmentAtParts) (low : ℕ) (s : SegmentAtParts) (unit x : ℕ) → In s segments
    → is_constant s.segment.numbers ≡ false → stream_offset s.segment unit ≡ Some x → low < x
    → Reached segments s.segment.numbers.body_sid low x
unfolding listed_in
listed-reached segments low s unit x h constant e above =
    let start = unsigned_abs s.segment.numbers.start in
    let duration = unsigned_abs s.segment.numbers.duration in
    let place = unit - start in
    let by_size = if covers_constant s.segment unit then Some (s.segment.numbers.unit_bytes * unit) else None in
    let f = ap (λ b. if b then by_size
    else (if covers_entry s.segment unit then Some (entry_offset s.segment place) else None)) (sym constant) ∙ e in
    let g = guarded_true (covers_entry s.segment unit) (entry_offset s.segment place) x f in
    let p = and_parts (nat_le start unit && nat_lt unit (start + duration))
    (nat_lt place (entry_count s.segment)) g.0 in
    let q = and_parts (nat_le start unit) (nat_lt unit (start + duration)) p.0 in
    let from = leb-true start unit q.0 in
    let count = ltb-true place (entry_count s.segment) p.1 in
    let units = range_with_len start (entry_count s.segment) in
    let inside = In-range start (entry_count s.segment) unit from (omega (arith, from, count)) in
    let listed = (In-filter_map (λ unit. place_in unit s) units (in_stream s x)).1
    (unit, inside, in_place s unit x e) in (
      in_stream s x,
      (In-append (in_stream s x) (flat_map listed_in segments) (filter_map (sized_above low) segments)).1
          (inl ((In-flat_map listed_in segments (in_stream s x)).1 (s, h, listed))),
      refl,
      above,
      omega arith,
    )

-- The first unit of one size behind an offset.
pub first_behind : (bytes low unit : ℕ) → 0 < bytes → low < bytes * unit → low / bytes + 1 ≤ unit
first_behind bytes low unit some above =
    elim (cases_lt (low / bytes) unit) [
      | inl l ↦ omega (arith, l)
      | inr g ↦
          let m = mul-le-mul_left bytes g in
          let d : bytes * (low / bytes) + low % bytes ≡ low = omega (arith, some) in
          absurd (omega (arith, m, d, above))
    ]

pub begins_behind : (bytes low unit : ℕ) → 0 < bytes → low / bytes + 1 ≤ unit → low < bytes * unit
begins_behind bytes low unit some from =
    let m = mul-le-mul_left bytes from in
    let d : bytes * (low / bytes) + low % bytes ≡ low = omega (arith, some) in
    let r : low % bytes < bytes = omega (arith, some) in omega (arith, m, d, r)

pub covered : (s : SegmentParts) (unit earlier : ℕ) → covers_constant s unit ≡ true → unsigned_abs s.numbers.start ≤ earlier
    → earlier ≤ unit → covers_constant s earlier ≡ true
covered s unit earlier e from below =
    let start = unsigned_abs s.numbers.start in
    let duration = unsigned_abs s.numbers.duration in
    let p = and_parts (nat_le start unit) ((duration == 0) || nat_lt unit (start + duration)) e in
    and_from (nat_le start earlier) ((duration == 0) || nat_lt earlier (start + duration)) (le-leb _ _ from)
    (elim (duration == 0) as (λ b. (b || nat_lt unit (start + duration)) ≡ true
    → (b || nat_lt earlier (start + duration)) ≡ true) [
      | true ↦ λ f. refl
      | false ↦ λ f. let l = ltb-true unit (start + duration) f in lt-ltb _ _ (omega (arith, l, below))
    ] p.1)

sized-reached : (segments : List SegmentAtParts) (low : ℕ) (s : SegmentAtParts) (unit x : ℕ) → In s segments
    → is_constant s.segment.numbers ≡ true → stream_offset s.segment unit ≡ Some x → low < x
    → Reached segments s.segment.numbers.body_sid low x
unfolding sized_above
sized-reached segments low s unit x h constant e above =
    let n = s.segment.numbers in
    let start = unsigned_abs n.start in
    let bytes = n.unit_bytes in
    let some : 0 < bytes = ltb-true 0 bytes constant in
    let first = max start (low / bytes + 1) in
    let by_entry = λ (u : ℕ). if covers_entry s.segment u then Some (entry_offset s.segment (u - start)) else None in
    let f = ap (λ b. if b then (if covers_constant s.segment unit then Some (bytes * unit) else None)
    else by_entry unit) (sym constant) ∙ e in
    let g = guarded_true (covers_constant s.segment unit) (bytes * unit) x f in
    let at = g.1 in
    let behind = first_behind bytes low unit some (omega (arith, above, at)) in
    let p = and_parts (nat_le start unit) ((unsigned_abs n.duration == 0)
    || nat_lt unit (start + unsigned_abs n.duration)) g.0 in
    let from = leb-true start unit p.0 in
    let early : first ≤ unit = omega (arith, from, behind) in
    let late : start ≤ first = omega arith in
    let over : low / bytes + 1 ≤ first = omega arith in
    let covers = covered s.segment unit first g.0 late early in
    let offset : stream_offset s.segment first ≡ Some (bytes * first) =
    ap (λ b. if b then (if covers_constant s.segment first then Some (bytes * first) else None) else by_entry first)
    constant ∙ ap (λ b. if b then Some (bytes * first) else None) covers in
    let sized : sized_above low s ≡ Some (in_stream s (bytes * first)) =
    ap (λ b. if b then place_in first s else None) constant ∙ in_place s first (bytes * first) offset in
    let less = mul-le-mul_left bytes early in (
      in_stream s (bytes * first),
      (In-append (in_stream s (bytes * first)) (flat_map listed_in segments) (filter_map (sized_above low) segments)).1
          (inr ((In-filter_map (sized_above low) segments (in_stream s (bytes * first))).1 (s, h, sized))),
      refl,
      begins_behind bytes low first some over,
      omega (arith, less, at),
    )

reached : (segments : List SegmentAtParts) (body_sid low x : ℕ) → IsStreamPlace segments body_sid x → low < x
    → Reached segments body_sid low x
reached segments body_sid low x p above =
    let s = p.by in
    subst (λ b. Reached segments b low x) p.body
    (elim (is_constant s.segment.numbers) as (λ b. is_constant s.segment.numbers ≡ b
    → Reached segments s.segment.numbers.body_sid low x) [
      | true ↦ λ e. sized-reached segments low s p.unit x p.held e p.given above
      | false ↦ λ e. listed-reached segments low s p.unit x p.held e p.given above
    ] refl)

-- ---- the next place

offset-of : (body_sid : ℕ) (q : StreamPlace) → q.body_sid ≡ body_sid → offset_in body_sid q ≡ Some q.offset
offset-of body_sid q e = ap (λ b. if b then Some q.offset else None) (eq-eqb q.body_sid body_sid e)

told : (segments : List SegmentAtParts) (body_sid low : ℕ) (r : Option ℕ)
    → IsLeast low (offsets_in body_sid (places_above low segments)) r → IsNextOf segments body_sid low r
told segments body_sid low None is = λ x p.
    elim (cases_lt low x) [
      | inr l ↦ l
      | inl above ↦
          let q = reached segments body_sid low x p above in
          let k = (In-filter_map (offset_in body_sid) (places_above low segments) q.0.offset).1
          (q.0, q.1, offset-of body_sid q.0 q.2) in
          let l = is q.0.offset k in let m = q.3 in absurd (omega (arith, l, m))
    ]
told segments body_sid low (Some next) is =
    let s = (In-filter_map (offset_in body_sid) (places_above low segments) next).0 is.0 in
    let t = offset_in-says body_sid next s.0 s.2 in
    let g = above-given segments low s.0 s.1 in
    record {
      given = subst (λ b. IsStreamPlace segments b next) t.0 (subst (λ o. IsStreamPlace segments s.0.body_sid o) t.1 g);
      above = is.1;
      least = λ x p above.
          let q = reached segments body_sid low x p above in
          let k = (In-filter_map (offset_in body_sid) (places_above low segments) q.0.offset).1
          (q.0, q.1, offset-of body_sid q.0 q.2) in
          let l = is.2 q.0.offset k q.3 in let m = q.4 in omega (arith, l, m);
    }

pub next-told : (segments : List SegmentAtParts) (body_sid low : ℕ)
    → IsNextOf segments body_sid low (next_of segments body_sid low)
next-told segments body_sid low = told segments body_sid low (next_of segments body_sid low)
    (least-is low (offsets_in body_sid (places_above low segments)))

-- It is the only answer.
pub next-is : (segments : List SegmentAtParts) (body_sid low : ℕ) (r : Option ℕ)
    → (next_of segments body_sid low ≡ r) ↔ IsNextOf segments body_sid low r
next-is segments body_sid low r = (
  λ e. subst (IsNextOf segments body_sid low) e (next-told segments body_sid low),
  λ t. same (next_of segments body_sid low) r (next-told segments body_sid low) t,
)
  where
    same : (a b : Option ℕ) → IsNextOf segments body_sid low a → IsNextOf segments body_sid low b → a ≡ b
    same None None f g = refl
    same None (Some y) f g = let l = f y g.given in let m = g.above in absurd (omega (arith, l, m))
    same (Some x) None f g = let l = g x f.given in let m = f.above in absurd (omega (arith, l, m))
    same (Some x) (Some y) f g =
        let l = f.least y g.given g.above in
        let m = g.least x f.given f.above in
        let e : x ≡ y = omega (arith, l, m) in ap (λ (n : ℕ). Some n) e

pub of_index : (notes : List NoteParts) (index_sid : ℕ) (s : SegmentAtParts)
    → In s (segments_for notes index_sid) ↔ (In s (segments_of notes) × (s.segment.numbers.index_sid ≡ index_sid))
of_index notes index_sid s =
    let f = In-filter (λ s. s.segment.numbers.index_sid == index_sid) (segments_of notes) s in (
      λ h. let k = f.0 h in (k.0, eqb-true _ _ k.1),
      λ h. f.1 (h.0, eq-eqb _ _ h.1),
    )
