-- The segments of an index among those of all.
use Rattle.mxf_views.proofs.Common.{◌≡◌, ◌∙◌, ◌↔◌, ◌≤◌, ◌+◌, ◌==◌, ◌&&◌, ℕ, zero, suc, Bool, true, List, [], ◌∷◌}
use Rattle.mxf_views.proofs.Common.{Some, refl, sym, ap, inl, inr, arith, eq-eqb, eqb-true, In, In-filter, In-filter_map}
use Rattle.mxf_views.proofs.Common.{In-map, In-union, In-at, and_from, and_parts, filter, filter_map, find, find-only, found-In, get_or}
use Rattle.mxf_views.proofs.Common.{le-leb, leb-true, lt-ltb, ltb-true, map, nat_le, nat_lt, IsRising, IsRising-union, IsTotalOrder, Less, Ordering}
use Rattle.mxf_views.proofs.Common.{all-In, nat_cmp, nat_cmp-IsAntisymmetric, nat_cmp_total, on_total, then_total, ties, ordering_then, SameMembers}
use Rattle.mxf_views.proofs.Common.{NoteParts, SegmentAtParts, segments_of, same_Some}
use Rattle.std.specs.FinSet.{IsAntisymmetric}
use Rattle.std.specs.List.Sorted.{IsNonDecreasingBy}
use Rattle.std.specs.Option.{option_map_or}
use Rattle.mxf_views.proofs.KeptItems.{kept_found}
use Rattle.mxf_views.proofs.SegmentLaws.{offset-placed_segment}
use Rattle.mxf_views.specs.Places.{placed_segment}
use Rattle.mxf_units.specs.Repeated.{SayAll}
use Rattle.mxf_units.specs.Streams.{segments_for}
use Rattle.mxf_doubts.specs.declared.starts.index.OwnSegment.{OwnSegment}
use Rattle.mxf_doubts.specs.UnitStarts.{own_segment, own_segment_cmp, own_segments, segment_there}

pub own_total : IsTotalOrder own_segment_cmp
own_total = then_total (on_total (λ (s : OwnSegment). s.index_sid) nat_cmp_total) (on_total (λ (s : OwnSegment). s.offset) nat_cmp_total)

pub one_own : IsAntisymmetric own_segment_cmp
one_own a b e =
    let p = ties _ _ e in
    let index = nat_cmp-IsAntisymmetric a.index_sid b.index_sid p.0 in
    let offset = nat_cmp-IsAntisymmetric a.offset b.offset p.1 in
    λ i. record { index_sid = index i; offset = offset i }

less_first : (a b : ℕ) (o : Ordering) → ordering_then (nat_cmp a b) o ≡ Less → a ≤ b
less_first a b o e = grind (arith, nat_cmp)

never_fall : (xs : List OwnSegment) → IsRising own_segment_cmp xs → IsNonDecreasingBy (λ (s : OwnSegment). s.index_sid) xs
never_fall [] r i j d l h = absurd (omega arith)
never_fall (x ∷ xs) r zero zero d l h = omega arith
never_fall (x ∷ xs) r zero (suc j) d l h =
    let y = get_or xs j d in
    less_first x.index_sid y.index_sid _ (all-In (λ y. own_segment_cmp x y ≡ Less) xs y r.0 (In-at xs j d (omega arith)))
never_fall (x ∷ xs) r (suc i) zero d l h = absurd (omega arith)
never_fall (x ∷ xs) r (suc i) (suc j) d l h = never_fall xs r.1 i j d (omega arith) (omega arith)

pub own_never_fall : (notes : List NoteParts) → IsNonDecreasingBy (λ (s : OwnSegment). s.index_sid) (own_segments notes)
own_never_fall notes = never_fall (own_segments notes) (IsRising-union own_total one_own [] (map own_segment (segments_of notes)) tt)

found_there : (notes : List NoteParts) (u : SegmentAtParts) → In u (segments_of notes)
    → find (λ (v : SegmentAtParts). v.offset == u.offset) (segments_of notes) ≡ Some u
unfolding segments_of
found_there notes u i = kept_found placed_segment (λ (v : SegmentAtParts). v.offset) offset-placed_segment notes u i

-- Segments that begin at one offset are one.
one_segment : (notes : List NoteParts) (s t : SegmentAtParts) → In s (segments_of notes) → In t (segments_of notes)
    → s.offset ≡ t.offset → s ≡ t
one_segment notes s t i j e =
    let at = λ (o : ℕ). find (λ (u : SegmentAtParts). u.offset == o) (segments_of notes) in
    same_Some s t (sym (found_there notes s i) ∙ ap at e ∙ found_there notes t j)

-- The segments found by those between an IndexSID and the next are those of the IndexSID.
abbrev pub is_own : ℕ → OwnSegment → Bool
is_own index_sid s = nat_le index_sid s.index_sid && option_map_or (λ e. nat_lt s.index_sid e) (Some (index_sid + 1)) true

pub own_found : (notes : List NoteParts) (index_sid : ℕ)
    → SameMembers (filter_map (segment_there notes)
    (filter (is_own index_sid) (own_segments notes))) (segments_for notes index_sid)
own_found notes index_sid s =
    let all = segments_of notes in
    let at = segment_there notes in
    let m = In-filter_map at (filter (is_own index_sid) (own_segments notes)) s in
    let f = In-filter (λ t. t.segment.numbers.index_sid == index_sid) all s in (
      λ h.
          let o = m.0 h in
          let k = (In-filter (is_own index_sid) (own_segments notes) o.0).0 o.1 in
          let t = (In-own o.0).0 k.0 in
          let g = found-In (λ (u : SegmentAtParts). u.offset == o.0.offset) all s o.2 in
          let own = ap (λ (x : OwnSegment). x.offset) t.2 in
          let same = one_segment notes s t.0 g.0 t.1 (eqb-true s.offset o.0.offset g.1 ∙ own) in
          let p = and_parts (nat_le index_sid o.0.index_sid) _ k.1 in
          let low = leb-true _ _ p.0 in
          let high = ltb-true _ _ p.1 in
          let index : o.0.index_sid ≡ index_sid = omega (arith, low, high) in
          f.1 (
            g.0,
            eq-eqb s.segment.numbers.index_sid index_sid (ap (λ (u : SegmentAtParts). u.segment.numbers.index_sid) same
                ∙ sym (ap (λ (x : OwnSegment). x.index_sid) t.2) ∙ index),
          ),
      λ h.
          let k = f.0 h in
          let o = own_segment s in
          let index = eqb-true s.segment.numbers.index_sid index_sid k.1 in
          m.1 (
            o,
            (In-filter (is_own index_sid) (own_segments notes) o).1 (
              (In-own o).1 (s, k.0, refl),
              and_from (nat_le index_sid o.index_sid) (nat_lt o.index_sid (index_sid + 1)) (le-leb _ _ (omega (arith, index)))
                  (lt-ltb _ _ (omega (arith, index))),
            ),
            find-only (λ (u : SegmentAtParts). u.offset == s.offset) all s k.0 (eq-eqb s.offset s.offset refl)
                (λ u i t. one_segment notes u s i k.0 (eqb-true u.offset s.offset t)),
          ),
    )
  where
    In-own : (o : OwnSegment) → In o (own_segments notes) ↔ ((t : SegmentAtParts) × In t (segments_of notes) × (o ≡ own_segment t))
    In-own o =
        let u = In-union own_total one_own o [] (map own_segment (segments_of notes)) in
        let w = In-map own_segment (segments_of notes) o in
        (λ h. elim (u.0 h) [ inl k ↦ absurd k | inr k ↦ w.0 k ], λ k. u.1 (inr (w.1 k)))

-- Segments that say all of some say all of those with the same members.
pub say_all : (a b left : List SegmentAtParts) → SameMembers a b → SayAll a left → SayAll b left
say_all a b left same say = record {
  among = λ s i. (same s).0 (say.among s i);
  each = λ s i. say.each s ((same s).1 i);
}
