-- The places and overlaps of extents: what they are of spans that rise by their starts.
use Rattle.mxf_views.proofs.Common.{◌≡◌, ◌∙◌, ◌↔◌, ◌⊎◌, ◌<◌, ◌≤◌, ◌+◌, ℕ, zero, suc, List, [], ◌∷◌, ◌++◌, Some, true}
use Rattle.mxf_views.proofs.Common.{false, if◌then◌else◌, length, map, max, min, nat_lt, refl, sym, ap, subst, inl, inr}
use Rattle.mxf_views.proofs.Common.{arith, lt-ltb, ltb-true, cases_lt, Contains-permutation, IsPermutation-sym}
use Rattle.mxf_views.proofs.Common.{same_Some, slice_get, IsNonDecreasingBy, In, Contains-from_In, In-append}
use Rattle.mxf_views.proofs.Common.{In-from_Contains, In-map, IsCover, IsRun, union_of_runs, union_of_runs-IsUnion}
use Rattle.mxf_views.proofs.Common.{with_run, LiesIn, IsCover-with_run}
use Rattle.mxf_catalogue.specs.declared.run.Run.{Run}
use Rattle.mxf_hand.specs.Places.{AreApart, ArePlaces, AreSpans, GivenParts, IsPlaceOf, LiesInExtent, LiesInPlace}
use Rattle.mxf_hand.specs.Places.{overlaps_below, place, places_above, run_of, some_place, spans_from}
use Rattle.mxf_hand.specs.declared.given.Extent.{Extent}
use Rattle.mxf_hand.specs.declared.given.Place.{Place}

-- ---- one place, where it has an offset

some_is : (s e n : ℕ) (p : Place) → In p (some_place s e n) → (p ≡ place s e n) × (s < e)
some_is s e n p h = elim (nat_lt s e) as (λ b. nat_lt s e ≡ b → In p (if b then place s e n ∷ [] else [])
    → (p ≡ place s e n) × (s < e)) [
      | true ↦ λ q k. elim k [ inl same ↦ (same, ltb-true s e q) | inr none ↦ absurd none ]
      | false ↦ λ q k. absurd k
    ] refl h

some_there : (s e n : ℕ) → s < e → In (place s e n) (some_place s e n)
some_there s e n l =
    subst (In (place s e n)) (sym (ap (λ b. if b then place s e n ∷ [] else []) (lt-ltb s e l))) (inl refl)

-- ---- spans

-- The span of the extent of a source, from the source with a number on.
record IsSpan (n : ℕ) (extents : List Extent) (p : Place) : Type 0 where
  at : ℕ
  extent : Extent
  is : slice_get extents at ≡ Some extent
  start : p.start ≡ extent.offset
  end : p.end ≡ extent.offset + extent.size
  source : p.source ≡ n + at
  some : p.start < p.end

span_is : (n : ℕ) (extents : List Extent) (p : Place) → In p (spans_from n extents) → IsSpan n extents p
span_is n [] p h = absurd h
span_is n (e ∷ extents) p h =
    elim ((In-append p (some_place e.offset (e.offset + e.size) n) (spans_from (n + 1) extents)).0 h) [
      | inl k ↦ (
          let s = some_is e.offset (e.offset + e.size) n p k in
          let start = ap (λ (q : Place). q.start) s.0 in
          let end = ap (λ (q : Place). q.end) s.0 in
          let source = ap (λ (q : Place). q.source) s.0 in
          let below = s.1 in record {
            at = 0;
            extent = e;
            is = refl;
            start = start;
            end = end;
            source = omega (arith, source);
            some = omega (arith, start, end, below);
          })
      | inr k ↦ (
          let ih = span_is (n + 1) extents p k in
          let source = ih.source in record {
            at = suc ih.at;
            extent = ih.extent;
            is = ih.is;
            start = ih.start;
            end = ih.end;
            source = omega (arith, source);
            some = ih.some;
          })
    ]

span_there : (n : ℕ) (extents : List Extent) (k : ℕ) (e : Extent) (x : ℕ) → slice_get extents k ≡ Some e
    → LiesInExtent e x → (p : Place) × In p (spans_from n extents) × (p.source ≡ n + k) × LiesInPlace p x
span_there n [] k e x is l = absurd cc
span_there n (f ∷ extents) zero e x is l =
    let same = same_Some f e is in
    let from : f.offset ≤ x = subst (λ (g : Extent). g.offset ≤ x) (sym same) l.from in
    let before : x < f.offset + f.size = subst (λ (g : Extent). x < g.offset + g.size) (sym same) l.before in
    let end = f.offset + f.size in (
      place f.offset end n,
      (In-append (place f.offset end n) (some_place f.offset end n) (spans_from (n + 1) extents)).1
          (inl (some_there f.offset end n (omega (arith, from, before)))),
      omega arith,
      record { from = from; before = before },
    )
span_there n (f ∷ extents) (suc k) e x is l =
    let ih = span_there (n + 1) extents k e x is l in
    let source = ih.2 in (
      ih.0,
      (In-append ih.0 (some_place f.offset (f.offset + f.size) n) (spans_from (n + 1) extents)).1 (inr ih.1),
      omega (arith, source),
      ih.3,
    )

-- ---- what is placed of spans

-- The place is a part of a span of its source.
record IsPartOf (p span : Place) : Type 0 where
  source : p.source ≡ span.source
  from : span.start ≤ p.start
  to : p.end ≤ span.end
  some : p.start < p.end

part_of : (s e : ℕ) (q p : Place) → q.start ≤ s → e ≤ q.end → In p (some_place s e q.source) → IsPartOf p q
part_of s e q p from to h =
    let is = some_is s e q.source p h in
    let start = ap (λ (r : Place). r.start) is.0 in
    let end = ap (λ (r : Place). r.end) is.0 in
    let source = ap (λ (r : Place). r.source) is.0 in
    let below = is.1 in record {
      source = source;
      from = omega (arith, start, from);
      to = omega (arith, end, to);
      some = omega (arith, start, end, below);
    }

places_part : (r : ℕ) (spans : List Place) (p : Place) → In p (places_above r spans)
    → (q : Place) × In q spans × IsPartOf p q
places_part r [] p h = absurd h
places_part r (q ∷ spans) p h =
    elim ((In-append p (some_place (max r q.start) q.end q.source) (places_above (max r q.end) spans)).0 h) [
      | inl k ↦ (q, inl refl, part_of (max r q.start) q.end q p (omega arith) (omega arith) k)
      | inr k ↦ let ih = places_part (max r q.end) spans p k in (ih.0, inr ih.1, ih.2)
    ]

overlaps_part : (r : ℕ) (spans : List Place) (p : Place) → In p (overlaps_below r spans)
    → (q : Place) × In q spans × IsPartOf p q
overlaps_part r [] p h = absurd h
overlaps_part r (q ∷ spans) p h =
    elim ((In-append p (some_place q.start (min r q.end) q.source) (overlaps_below (max r q.end) spans)).0 h) [
      | inl k ↦ (q, inl refl, part_of q.start (min r q.end) q p (omega arith) (omega arith) k)
      | inr k ↦ let ih = overlaps_part (max r q.end) spans p k in (ih.0, inr ih.1, ih.2)
    ]

places_apart : (low r : ℕ) (spans : List Place) → low ≤ r → AreApart low (places_above r spans)
places_apart low r [] l = tt
places_apart low r (q ∷ spans) l = elim (nat_lt (max r q.start) q.end) as (λ b.
    AreApart low ((if b then place (max r q.start) q.end q.source ∷ [] else []) ++ places_above (max r q.end) spans)) [
      | true ↦ (omega (arith, l), places_apart q.end (max r q.end) spans (omega arith))
      | false ↦ places_apart low (max r q.end) spans (omega (arith, l))
    ]

-- Each offset of a span lies in a place or an overlap of its source.
each : (r : ℕ) (spans : List Place) (q : Place) (x : ℕ) → In q spans → LiesInPlace q x
    → (p : Place) × (p.source ≡ q.source) × LiesInPlace p x
    × (In p (places_above r spans) ⊎ In p (overlaps_below r spans))
each r [] q x h l = absurd h
each r (s ∷ spans) q x (inl e) l =
    let from : s.start ≤ x = subst (λ (p : Place). p.start ≤ x) e l.from in
    let before : x < s.end = subst (λ (p : Place). x < p.end) e l.before in
    let source = sym (ap (λ (p : Place). p.source) e) in
    elim (cases_lt x r) [
      | inl below ↦ (
          let shared = place s.start (min r s.end) s.source in (
            shared,
            source,
            record { from = from; before = omega (arith, below, before) },
            inr ((In-append shared (some_place s.start (min r s.end) s.source) (overlaps_below (max r s.end) spans)).1
                (inl (some_there s.start (min r s.end) s.source (omega (arith, below, from, before))))),
          ))
      | inr above ↦ (
          let own = place (max r s.start) s.end s.source in (
            own,
            source,
            record { from = omega (arith, above, from); before = before },
            inl ((In-append own (some_place (max r s.start) s.end s.source) (places_above (max r s.end) spans)).1
                (inl (some_there (max r s.start) s.end s.source (omega (arith, above, from, before))))),
          ))
    ]
each r (s ∷ spans) q x (inr h) l =
    let ih = each (max r s.end) spans q x h l in (
      ih.0,
      ih.1,
      ih.2,
      elim ih.3 [
        | inl k ↦ inl ((In-append ih.0 (some_place (max r s.start) s.end s.source) (places_above (max r s.end) spans)).1
            (inr k))
        | inr k ↦ inr ((In-append ih.0 (some_place s.start (min r s.end) s.source)
            (overlaps_below (max r s.end) spans)).1 (inr k))
      ],
    )

-- ---- spans that rise

-- The places begin one at or above another, from an offset on.
abbrev Rise : ℕ → List Place → Type 0
Rise low [] = Unit {0}
Rise low (p ∷ spans) = (low ≤ p.start) × Rise p.start spans

rise_by : (low : ℕ) (spans : List Place) → IsNonDecreasingBy (λ p. p.start) spans
    → ((p : Place) → In p spans → low ≤ p.start) → Rise low spans
rise_by low [] up f = tt
rise_by low (p ∷ spans) up f = (
  f p (inl refl),
  rise_by p.start spans (λ i j d l h. up (suc i) (suc j) d (omega arith) (omega arith)) (λ q h.
      let c = Contains-from_In q spans h in
      let within : c.0 < length spans = c.1 in
      let above = up 0 (suc c.0) q (omega arith) (omega arith) in
      let there = ap (λ (t : Place). t.start) c.2 in
      omega (arith, above, there)),
)

-- Each offset of such a span lies in a place, or at or above the first start and below what was reached before.
covered : (low r : ℕ) (spans : List Place) (P : ℕ → Type 0) → Rise low spans
    → ((x : ℕ) → low ≤ x → x < r → P x) → (q : Place) (x : ℕ) → In q spans → LiesInPlace q x
    → P x ⊎ ((p : Place) × In p (places_above r spans) × LiesInPlace p x)
covered low r [] P rise f q x h l = absurd h
covered low r (s ∷ spans) P rise f q x (inl e) l =
    let from : s.start ≤ x = subst (λ (p : Place). p.start ≤ x) e l.from in
    let before : x < s.end = subst (λ (p : Place). x < p.end) e l.before in
    let least = rise.0 in
    elim (cases_lt x r) [
      | inl below ↦ inl (f x (omega (arith, least, from)) below)
      | inr above ↦ inr (own_part r s spans x from above before)
    ]
  where
    own_part : (r : ℕ) (s : Place) (spans : List Place) (x : ℕ) → s.start ≤ x → r ≤ x → x < s.end
        → (p : Place) × In p (places_above r (s ∷ spans)) × LiesInPlace p x
    own_part r s spans x from above before =
        let own = place (max r s.start) s.end s.source in (
          own,
          (In-append own (some_place (max r s.start) s.end s.source) (places_above (max r s.end) spans)).1
              (inl (some_there (max r s.start) s.end s.source (omega (arith, above, from, before)))),
          record { from = omega (arith, above, from); before = before },
        )
covered low r (s ∷ spans) P rise f q x (inr h) l =
    let ih = covered s.start (max r s.end) spans (λ y. P y ⊎ ((p : Place) × In p (places_above r (s ∷ spans))
    × LiesInPlace p y))
    rise.1 (λ y from below. elim (cases_lt y r) [
      | inl less ↦ (let least = rise.0 in inl (f y (omega (arith, least, from)) less))
      | inr above ↦ (
          let own = place (max r s.start) s.end s.source in
          inr (
            own,
            (In-append own (some_place (max r s.start) s.end s.source) (places_above (max r s.end) spans)).1
                (inl (some_there (max r s.start) s.end s.source (omega (arith, above, from, below)))),
            record { from = omega (arith, above, from); before = omega (arith, above, below) },
          ))
    ]) q x h l in
    elim ih [
      | inl k ↦ k
      | inr k ↦ inr (
        k.0,
        (In-append k.0 (some_place (max r s.start) s.end s.source) (places_above (max r s.end) spans)).1 (inr k.1),
        k.2,
      )
    ]

-- ---- the cover of places

pub IsCover-all : (runs others : List Run) → IsCover runs → ((r : Run) → In r others → IsRun r)
    → IsCover (union_of_runs runs others)
IsCover-all runs [] c f = c
IsCover-all runs (s ∷ others) c f =
    IsCover-all (with_run s runs) others (IsCover-with_run s runs (f s (inl refl)) c) (λ r h. f r (inr h))

pub lies_in_places : (places : List Place) (x : ℕ)
    → LiesIn (union_of_runs [] (map run_of places)) x ↔ ((p : Place) × In p places × LiesInPlace p x)
lies_in_places places x =
    let all = union_of_runs-IsUnion [] (map run_of places) x in (
      λ h. elim (all.0 h) [
        | inl none ↦ absurd none.1
        | inr k ↦ (
            let m = (In-map run_of places k.0).0 k.1 in
            let from : k.0.start ≤ x = k.2.from in
            let before : x + 1 ≤ k.0.end = k.2.before in
            let start = ap (λ (r : Run). r.start) m.2 in
            let end = ap (λ (r : Run). r.end) m.2 in
            (m.0, m.1, record { from = omega (arith, from, start); before = omega (arith, before, end) }))
      ],
      λ h.
          let from : h.0.start ≤ x = h.2.from in
          let before : x < h.0.end = h.2.before in
          all.1 (inr (
            run_of h.0,
            (In-map run_of places (run_of h.0)).1 (h.0, h.1, refl),
            record { from = from; before = omega (arith, before) },
          )),
    )

-- ---- places of extents

module _ (extents : List Extent) (spans : List Place) (are : AreSpans extents spans) where
  span_of : (p : Place) → In p spans → IsSpan 0 extents p
  span_of p h = span_is 0 extents p (In-from_Contains p (spans_from 0 extents)
      (Contains-permutation spans (spans_from 0 extents) p (IsPermutation-sym (spans_from 0 extents) spans are.all)
      (Contains-from_In p spans h)))

  span_in : (p : Place) → In p (spans_from 0 extents) → In p spans
  span_in p h = In-from_Contains p spans
      (Contains-permutation (spans_from 0 extents) spans p are.all (Contains-from_In p (spans_from 0 extents) h))

  is_place : (p q : Place) → In q spans → IsPartOf p q → IsPlaceOf extents p
  is_place p q h part =
      let s = span_of q h in
      let source = part.source in
      let number = s.source in
      let at : p.source ≡ s.at = omega (arith, source, number) in
      let start = s.start in
      let end = s.end in
      let from = part.from in
      let to = part.to in record {
        extent = s.extent;
        is = ap (slice_get extents) at ∙ s.is;
        some = part.some;
        from = omega (arith, start, from);
        before = omega (arith, end, to);
      }

  pub place_of : (p : Place) → In p (places_above 0 spans) → IsPlaceOf extents p
  place_of p h = let k = places_part 0 spans p h in is_place p k.0 k.1 k.2

  -- The offsets of a place are a run of a cover.
  pub place_run : (p : Place) → In p (places_above 0 spans) → IsRun (run_of p)
  place_run p h =
      let k = place_of p h in
      let before = k.before in
      let most = k.extent.within in record { order = k.some; within = omega (arith, before, most) }

  pub are_places : ArePlaces extents (places_above 0 spans) (overlaps_below 0 spans)
      (union_of_runs [] (map run_of (places_above 0 spans)))
  are_places = record {
    within = place_of;
    apart = places_apart 0 0 spans (omega arith);
    cover = IsCover-all [] (map run_of (places_above 0 spans)) (record { maximal = tt; within = tt }) (λ r h.
        let m = (In-map run_of (places_above 0 spans) r).0 h in
        subst IsRun (sym m.2) (place_run m.0 m.1));
    given = lies_in_places (places_above 0 spans);
    all = λ e x h l.
        let c = In-at_number e h in
        let s = span_there 0 extents c.0 e x c.1 l in
        (lies_in_places (places_above 0 spans) x).1
        (elim (covered 0 0 spans (λ y. ⊥) (rise_by 0 spans are.rise (λ p k. omega arith)) (λ y from below. omega arith)
        s.0 x (span_in s.0 s.1) s.3) [ inl none ↦ absurd none | inr k ↦ k ]);
    shared = λ p h. let k = overlaps_part 0 spans p h in is_place p k.0 k.1 k.2;
    overlaps = λ number e x is l.
        let s = span_there 0 extents number e x is l in
        let k = each 0 spans s.0 x (span_in s.0 s.1) s.3 in
        let one = k.1 in
        let other = s.2 in (k.0, omega (arith, one, other), k.2, k.3);
  } where
    In-at_number : (e : Extent) → In e extents → (k : ℕ) × (slice_get extents k ≡ Some e)
    In-at_number e h = at_number extents e h where
      at_number : (es : List Extent) (e : Extent) → In e es → (k : ℕ) × (slice_get es k ≡ Some e)
      at_number [] e h = absurd h
      at_number (f ∷ es) e (inl same) = (0, ap (λ (g : Extent). Some g) (sym same))
      at_number (f ∷ es) e (inr h) = let k = at_number es e h in (suc k.0, k.1)

-- The offsets that are given are those of the extents.
pub given_by_extents : (extents : List Extent) (places others : List Place) (runs : List Run) (whole : GivenParts)
    → record { extents = extents; given = runs } ≡ whole → ArePlaces extents places others runs → (x : ℕ)
    → LiesIn whole.given x ↔ ((e : Extent) × In e whole.extents × LiesInExtent e x)
given_by_extents extents places others runs whole is are x =
    subst (λ (g : GivenParts). LiesIn g.given x ↔ ((e : Extent) × In e g.extents × LiesInExtent e x)) is (
      λ h.
          let k = (are.given x).0 h in
          let p = are.within k.0 k.1 in
          let c = In-from_slice_get extents k.0.source p.extent p.is in
          let from = p.from in
          let before = p.before in
          let low = k.2.from in
          let high = k.2.before in
          (p.extent, c, record { from = omega (arith, from, low); before = omega (arith, before, high) }),
      λ h. are.all h.0 x h.1 h.2,
    )
  where
    In-from_slice_get : (es : List Extent) (k : ℕ) (e : Extent) → slice_get es k ≡ Some e → In e es
    In-from_slice_get [] k e is = absurd cc
    In-from_slice_get (f ∷ es) zero e is = inl (sym (same_Some f e is))
    In-from_slice_get (f ∷ es) (suc k) e is = inr (In-from_slice_get es k e is)
