-- Places in essence streams, those that segments give, and the place of a unit by them.
use Rattle.mxf_views.proofs.Common.{◌≡◌, ℕ, ◌⊎◌, true, false, cond, List, [], ◌∷◌, Some, None, refl, sym, ap, subst}
use Rattle.mxf_views.proofs.Common.{◌∙◌, inl, inr, eqb-true, eq-eqb, ◌↔◌, ◌==◌, option_map, filter_map, nat_cmp_total}
use Rattle.mxf_views.proofs.Common.{tied_itself, In, IsRising, with_one, In-union, IsRising-union, less_in}
use Rattle.mxf_views.proofs.Common.{same_from_members, stream_offset, SegmentAtParts, place_cmp, place_by}
use Rattle.mxf_views.proofs.Common.{In-filter_map, given_by, places_with, ordering_then, IsTotalOrder, IsAntisymmetric}
use Rattle.mxf_views.proofs.Common.{on_total, then_total, IsBelow, IsGiven, IsOnlyPlace, in_stream, place_in}
use Rattle.mxf_views.proofs.Common.{lt_from_less, ties}
use Rattle.mxf_views.specs.declared.index.place.StreamPlace.{StreamPlace}
use Rattle.mxf_views.specs.declared.index.place.Place.TheVariants.{NotIndexed, At, Ambiguous}
use Rattle.std.proofs.Common.{nat_cmp, Ordering, Less, Equal, Greater}
use Rattle.std.specs.FinSet.{nat_cmp-IsAntisymmetric}
use Rattle.mxf_views.specs.declared.index.place.Place.{Place}
use Rattle.mxf_views.specs.Places.{place_of, AreTwoLeast, IsPlace}
use Rattle.mxf_klv.specs.Rising.{IsRising-with_one}
use Rattle.std.specs.Cmp.{nat_cmp_is}

pub place_total : IsTotalOrder place_cmp
place_total = then_total (on_total (λ p. p.body_sid) nat_cmp_total) (on_total (λ p. p.offset) nat_cmp_total)

pub same_place : (a b : StreamPlace) → a.body_sid ≡ b.body_sid → a.offset ≡ b.offset → a ≡ b
same_place a b e f i = record { body_sid = e i; offset = f i }

pub place_cmp-IsAntisymmetric : IsAntisymmetric place_cmp
place_cmp-IsAntisymmetric a b e =
    let p = ties _ _ e in
    same_place a b (nat_cmp-IsAntisymmetric _ _ p.0) (nat_cmp-IsAntisymmetric _ _ p.1)

-- A segment that gives a place adds it.
pub places_more : (places : List StreamPlace) (index_sid unit : ℕ) (s : SegmentAtParts)
    (rest left : List SegmentAtParts) (p : StreamPlace) → left ≡ s ∷ rest → Some p ≡ given_by index_sid unit s
    → places_with (with_one place_cmp p places) index_sid unit rest ≡ places_with places index_sid unit left
places_more places index_sid unit s rest left p e f =
    let g : places_with places index_sid unit left ≡ places_with places index_sid unit (s ∷ rest) = ap
    (places_with places index_sid unit) e in
    let h : places_with (with_one place_cmp p places) index_sid unit rest ≡ places_with places index_sid unit
    (s ∷ rest) = rw (← f) refl in
    h ∙ sym g

pub rises_more : (places : List StreamPlace) (p : StreamPlace) → IsRising place_cmp places → IsRising place_cmp
    (with_one place_cmp p places)
rises_more places p r = IsRising-with_one place_total place_cmp-IsAntisymmetric p places r

-- ---- the order of places

pub below_from : (p q : StreamPlace) → place_cmp p q ≡ Less → IsBelow p q
below_from p q e = elim (nat_cmp p.body_sid q.body_sid) as (λ o. nat_cmp p.body_sid q.body_sid ≡ o
    → ordering_then o (nat_cmp p.offset q.offset) ≡ Less → IsBelow p q) [
      | Less ↦ λ f g. inl (lt_from_less _ _ f)
      | Equal ↦ λ f g. inr (nat_cmp-IsAntisymmetric p.body_sid q.body_sid f, lt_from_less _ _ g)
      | Greater ↦ λ f g. absurd cc
    ] refl e

less_from : (p q : StreamPlace) → IsBelow p q → place_cmp p q ≡ Less
less_from p q (inl l) =
    ap (λ (r : Ordering). ordering_then r (nat_cmp p.offset q.offset)) (sym (nat_cmp_is p.body_sid q.body_sid Less l))
less_from p q (inr s) = ap (λ (r : Ordering). ordering_then r (nat_cmp p.offset q.offset))
    (sym (nat_cmp_is p.body_sid q.body_sid Equal s.0)) ∙ sym (nat_cmp_is p.offset q.offset Less s.1)

not_itself : (p q : StreamPlace) → place_cmp p q ≡ Less → p ≡ q → ⊥
not_itself p q e same =
    let t = tied_itself place_total q in
    let u : place_cmp q q ≡ Less = subst (λ (x : StreamPlace). place_cmp x q ≡ Less) same e in
    cc (t, u)

not_both : (p q : StreamPlace) → place_cmp p q ≡ Less → place_cmp q p ≡ Less → ⊥
not_both p q e f = not_itself p p (place_total.trans p q p e f) refl

-- ---- the places that are given

given_from : (segments : List SegmentAtParts) (index_sid unit : ℕ) (s : SegmentAtParts) (p : StreamPlace)
    → In s segments → given_by index_sid unit s ≡ Some p → IsGiven segments index_sid unit p
unfolding given_by
given_from segments index_sid unit s p h e =
    let sid = s.segment.numbers.index_sid in
    elim (sid == index_sid) as (λ b. (sid == index_sid) ≡ b
    → cond b (place_in unit s) None ≡ Some p → IsGiven segments index_sid unit p) [
      | false ↦ λ _ q. absurd cc
      | true ↦ λ t q. elim (stream_offset s.segment unit) as (λ o. stream_offset s.segment unit ≡ o
          → option_map (in_stream s) o ≡ Some p
          → IsGiven segments index_sid unit p) [
            | None ↦ λ _ u. absurd cc
            | Some offset ↦ λ o u.
                let same : in_stream s offset ≡ p = cc (u) in
                subst (IsGiven segments index_sid unit) same record {
                  by = s;
                  held = h;
                  index = eqb-true sid index_sid t;
                  body = refl;
                  offset = o;
                }
          ] refl q
    ] refl e

given_to : (segments : List SegmentAtParts) (index_sid unit : ℕ) (p : StreamPlace)
    → (g : IsGiven segments index_sid unit p) → given_by index_sid unit g.by ≡ Some p
unfolding given_by
given_to segments index_sid unit p g =
    let t = eq-eqb g.by.segment.numbers.index_sid index_sid g.index in
    let o = g.offset in
    let b = g.body in
    rw t (rw o (λ i. Some record { body_sid = b i; offset = p.offset }))

-- the rising list of the places that are given
abbrev Holds : List SegmentAtParts → ℕ → ℕ → List StreamPlace → Type 0
Holds segments index_sid unit places = (p : StreamPlace) → In p places ↔ IsGiven segments index_sid unit p

holds : (segments : List SegmentAtParts) (index_sid unit : ℕ)
    → Holds segments index_sid unit (places_with [] index_sid unit segments)
holds segments index_sid unit p =
    let u = In-union place_total place_cmp-IsAntisymmetric p [] (filter_map (given_by index_sid unit) segments) in
    let f = In-filter_map (given_by index_sid unit) segments p in (
      λ h. elim (u.0 h) [
        | inl k ↦ absurd k
        | inr k ↦ (let s = f.0 k in given_from segments index_sid unit s.0 p s.1 s.2)
      ],
      λ g. u.1 (inr (f.1 (g.by, g.held, given_to segments index_sid unit p g))),
    )

places_rise : (segments : List SegmentAtParts) (index_sid unit : ℕ)
    → IsRising place_cmp (places_with [] index_sid unit segments)
places_rise segments index_sid unit =
    IsRising-union place_total place_cmp-IsAntisymmetric [] (filter_map (given_by index_sid unit) segments) tt

-- The place is by any rising list of exactly these places.
pub place_by_list : (segments : List SegmentAtParts) (index_sid unit : ℕ) (places : List StreamPlace)
    → IsRising place_cmp places → ((p : StreamPlace) → In p places ↔ IsGiven segments index_sid unit p)
    → place_of segments index_sid unit ≡ place_by places
place_by_list segments index_sid unit places r h =
    let w = holds segments index_sid unit in
    ap place_by (same_from_members place_total place_cmp-IsAntisymmetric (places_with [] index_sid unit segments) places
    (places_rise segments index_sid unit) r (λ p. (λ k. (h p).1 ((w p).0 k), λ k. (w p).1 ((h p).0 k))))

-- ---- the place by them

place_from : (segments : List SegmentAtParts) (index_sid unit : ℕ) (places : List StreamPlace)
    → IsRising place_cmp places
    → Holds segments index_sid unit places → IsPlace segments index_sid unit (place_by places)
place_from segments index_sid unit [] r w = λ p g. (w p).1 g
place_from segments index_sid unit (p ∷ []) r w = record {
  given = (w p).0 (inl refl);
  only = λ q g. elim ((w q).1 g) [
    | inl e ↦ (ap (λ (x : StreamPlace). x.body_sid) e, ap (λ (x : StreamPlace). x.offset) e)
    | inr k ↦ absurd k
  ];
}
place_from segments index_sid unit (p ∷ q ∷ places) r w = record {
  first = (w p).0 (inl refl);
  second = (w q).0 (inr (inl refl));
  below = below_from p q r.0.0;
  least = λ x g. elim ((w x).1 g) [
    | inl e ↦ inl e
    | inr k ↦ inr (elim k [ inl e ↦ inl e | inr m ↦ inr (below_from q x (less_in place_total q x places r.1.0 m)) ])
  ];
}

module _ {segments : List SegmentAtParts} {index_sid unit : ℕ} where
  at_or_above : (p q r : StreamPlace) → AreTwoLeast segments index_sid unit p q → IsGiven segments index_sid unit r
      → (p ≡ r) ⊎ (place_cmp p r ≡ Less)
  at_or_above p q r t g =
      let l = less_from p q t.below in
      elim (t.least r g) [
        | inl e ↦ inl (sym e)
        | inr k ↦ inr (elim k [ inl e ↦ ap (place_cmp p) e ∙ l | inr b ↦ place_total.trans p q r l (less_from q r b) ])
      ]

  one_first : (p q x y : StreamPlace) → AreTwoLeast segments index_sid unit p q
      → AreTwoLeast segments index_sid unit x y → p ≡ x
  one_first p q x y s t =
      elim (at_or_above p q x s t.first) [
        | inl e ↦ e
        | inr a ↦ elim (at_or_above x y p t s.first) [ inl e ↦ sym e | inr b ↦ absurd (not_both p x a b) ]
      ]

  second_or_above : (p q r : StreamPlace) → AreTwoLeast segments index_sid unit p q → IsGiven segments index_sid unit r
      → place_cmp p r ≡ Less → (q ≡ r) ⊎ (place_cmp q r ≡ Less)
  second_or_above p q r t g a =
      elim (t.least r g) [
        | inl e ↦ absurd (not_itself p r a (sym e))
        | inr k ↦ elim k [ inl e ↦ inl (sym e) | inr b ↦ inr (less_from q r b) ]
      ]

  one_second : (p q x y : StreamPlace) → AreTwoLeast segments index_sid unit p q
      → AreTwoLeast segments index_sid unit x y → q ≡ y
  one_second p q x y s t =
      let e = one_first p q x y s t in
      let a : place_cmp p y ≡ Less = ap (λ (z : StreamPlace). place_cmp z y) e ∙ less_from x y t.below in
      let b : place_cmp x q ≡ Less = ap (λ (z : StreamPlace). place_cmp z q) (sym e) ∙ less_from p q s.below in
      elim (second_or_above p q y s t.second a) [
        | inl f ↦ f
        | inr c ↦ elim (second_or_above x y q t s.second b) [ inl f ↦ sym f | inr d ↦ absurd (not_both q y c d) ]
      ]

  only_not_two : (body_sid offset : ℕ) (p q : StreamPlace) → IsOnlyPlace segments index_sid unit body_sid offset
      → AreTwoLeast segments index_sid unit p q → ⊥
  only_not_two body_sid offset p q o t =
      let e = o.only p t.first in
      let f = o.only q t.second in
      not_itself p q (less_from p q t.below) (same_place p q (e.0 ∙ sym f.0) (e.1 ∙ sym f.1))

one_place : (segments : List SegmentAtParts) (sid unit : ℕ) (a b : Place) → IsPlace segments sid unit a
    → IsPlace segments sid unit b → a ≡ b
one_place segments sid unit NotIndexed NotIndexed x y = refl
one_place segments sid unit NotIndexed (At body_sid offset) x y =
    absurd (x record { body_sid = body_sid; offset = offset } y.given)
one_place segments sid unit NotIndexed (Ambiguous p q) x y = absurd (x p y.first)
one_place segments sid unit (At body_sid offset) NotIndexed x y =
    absurd (y record { body_sid = body_sid; offset = offset } x.given)
one_place segments sid unit (At body_sid offset) (At b o) x y =
    let e = y.only record { body_sid = body_sid; offset = offset } x.given in
    λ i. At (e.0 i) (e.1 i)
one_place segments sid unit (At body_sid offset) (Ambiguous p q) x y = absurd (only_not_two body_sid offset p q x y)
one_place segments sid unit (Ambiguous p q) NotIndexed x y = absurd (y p x.first)
one_place segments sid unit (Ambiguous p q) (At body_sid offset) x y = absurd (only_not_two body_sid offset p q y x)
one_place segments sid unit (Ambiguous p q) (Ambiguous v w) x y =
    let e = one_first p q v w x y in
    let f = one_second p q v w x y in
    λ i. Ambiguous (e i) (f i)

-- The place is by the places that are given.
pub place_iff : (segments : List SegmentAtParts) (sid unit : ℕ) (place : Place)
    → (place_of segments sid unit ≡ place) ↔ IsPlace segments sid unit place
place_iff segments sid unit place =
    let own = place_of segments sid unit in
    let i : IsPlace segments sid unit own = place_from segments sid unit (places_with [] sid unit segments)
    (places_rise segments sid unit) (holds segments sid unit) in
    (λ e. subst (IsPlace segments sid unit) e i, λ j. one_place segments sid unit own place i j)
