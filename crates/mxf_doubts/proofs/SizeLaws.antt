-- Sizes that segments state, and searches for others.
use Rattle.mxf_views.proofs.Common.{◌≡◌, ◌∙◌, ◌≤◌, ◌<◌, ℕ, Bool, true, false, List, ◌∷◌, [], ◌&&◌, ◌||◌, ◌==◌, not}
use Rattle.mxf_views.proofs.Common.{sym, ap, refl, arith, length, map, nat_le, nat_lt, get_or, AllWithin, list_any}
use Rattle.mxf_views.proofs.Common.{and_from, and_parts, same_bool, le-leb, leb-true, lt-ltb, ltb-true, cases_lt, inl, inr, ◌⊎◌}
use Rattle.mxf_views.proofs.Common.{false_from_ne_true, Option, Some, None, NoteParts, IsPermutation, nat_cmp, eqb-true, eq-eqb, or_cases}
use Rattle.mxf_views.proofs.Common.{option_map_or}
use Rattle.std.proofs.lemmas.Cmp.{nat_cmp_total, on_total, then_total, tied_itself}
use Rattle.std.proofs.lemmas.List.Sorted.{list_any-IsPermutation}
use Rattle.std.specs.Cmp.{IsTotalOrder}
use Rattle.std.specs.List.Sorted.{IsSorted}
use Rattle.std.specs.Ordering.{ordering_index, ordering_then}
use Rattle.std.specs.declared.cmp.Ordering.{Ordering}
use Rattle.std.specs.declared.cmp.Ordering.TheVariants.{Less, Equal, Greater}
use Rattle.mxf_klv.proofs.Sides.{side_by, sides_rise}
use Rattle.mxf_views.specs.Places.{SegmentAtParts, segments_of}
use Rattle.mxf_doubts.specs.Sizes.{is_between, is_other_than, size_cmp, size_in}
use Rattle.mxf_doubts.proofs.FitLaws.{first_hit, none_hit}

pub size_total : IsTotalOrder size_cmp
size_total =
    then_total
    (then_total (on_total (λ (t : ℕ × ℕ × ℕ). t.0) nat_cmp_total) (on_total (λ (t : ℕ × ℕ × ℕ). t.1) nat_cmp_total))
    (on_total (λ (t : ℕ × ℕ × ℕ). t.2) nat_cmp_total)

abbrev pub size_side : ℕ × ℕ × ℕ → ℕ × ℕ × ℕ → ℕ
size_side wanted x = side_by size_cmp (λ (t : ℕ × ℕ × ℕ). t) wanted x

then_assoc : (a b c : Ordering) → ordering_then (ordering_then a b) c ≡ ordering_then a (ordering_then b c)
then_assoc Less b c = refl
then_assoc Equal b c = refl
then_assoc Greater b c = refl

side_then : (a d : ℕ) (rest : Ordering)
    → nat_lt (ordering_index (ordering_then (nat_cmp a d) rest)) 2 ≡ (nat_lt a d || ((a == d) && nat_lt (ordering_index rest) 2))
side_then a d rest = grind (arith, nat_cmp)

side_last : (c f : ℕ) → nat_lt (ordering_index (nat_cmp c f)) 2 ≡ nat_le c f
side_last c f = grind (arith, nat_cmp)

side_size : (a b c d e f : ℕ)
    → nat_lt (ordering_index (ordering_then (ordering_then (nat_cmp a d) (nat_cmp b e)) (nat_cmp c f))) 2
    ≡ (nat_lt a d || ((a == d) && (nat_lt b e || ((b == e) && nat_le c f))))
side_size a b c d e f =
    ap (λ o. nat_lt (ordering_index o) 2) (then_assoc (nat_cmp a d) (nat_cmp b e) (nat_cmp c f))
    ∙ side_then a d (ordering_then (nat_cmp b e) (nat_cmp c f))
    ∙ ap (λ t. nat_lt a d || ((a == d) && t)) (side_then b e (nat_cmp c f))
    ∙ ap (λ t. nat_lt a d || ((a == d) && (nat_lt b e || ((b == e) && t)))) (side_last c f)

side_least : (a b c d e f : ℕ)
    → nat_lt (ordering_index (ordering_then (ordering_then (nat_cmp a d) (nat_cmp b e)) (nat_cmp c f))) 1
    ≡ (nat_lt a d || ((a == d) && (nat_lt b e || ((b == e) && nat_lt c f))))
side_least a b c d e f = grind (arith, nat_cmp)

either_true : (a b : Bool) → (a ≡ true) ⊎ (b ≡ true) → (a || b) ≡ true
either_true a b h = grind arith

-- Above another: the IndexSID is greater, or that is the same and the BodySID greater, or both are and the bytes.
record IsAbove (low x : ℕ × ℕ × ℕ) : Type 0 where
  index : low.0 ≤ x.0
  body : x.0 ≡ low.0 → low.1 ≤ x.1
  bytes : x.0 ≡ low.0 → x.1 ≡ low.1 → low.2 < x.2

is_above : (low x : ℕ × ℕ × ℕ) → nat_lt (size_side low x) 2 ≡ false → IsAbove low x
is_above low x e =
    let g = sym (side_size x.0 x.1 x.2 low.0 low.1 low.2) ∙ e in
    let rest = (x.0 == low.0) && (nat_lt x.1 low.1 || ((x.1 == low.1) && nat_le x.2 low.2)) in
    let says : (nat_lt x.0 low.0 || rest) ≡ true → ⊥ = λ t. cc (g, t) in record {
      index = elim (cases_lt x.0 low.0) [
        | inl l ↦ absurd (says (either_true (nat_lt x.0 low.0) rest (inl (lt-ltb _ _ l))))
        | inr m ↦ m
      ];
      body = λ s. elim (cases_lt x.1 low.1) [
        | inl l ↦ absurd (says (either_true (nat_lt x.0 low.0) rest (inr (and_from _ _ (eq-eqb _ _ s)
            (either_true (nat_lt x.1 low.1) _ (inl (lt-ltb _ _ l)))))))
        | inr m ↦ m
      ];
      bytes = λ s u. elim (cases_lt low.2 x.2) [
        | inl l ↦ l
        | inr m ↦ absurd (says (either_true (nat_lt x.0 low.0) rest (inr (and_from _ _ (eq-eqb _ _ s)
            (either_true (nat_lt x.1 low.1) _ (inr (and_from _ _ (eq-eqb _ _ u) (le-leb _ _ m))))))))
      ];
    }

-- The same, or the same size.
record IsAtLeast (low x : ℕ × ℕ × ℕ) : Type 0 where
  index : low.0 ≤ x.0
  body : x.0 ≡ low.0 → low.1 ≤ x.1
  bytes : x.0 ≡ low.0 → x.1 ≡ low.1 → low.2 ≤ x.2

at_least : (low x : ℕ × ℕ × ℕ) → nat_lt (size_side low x) 1 ≡ false → IsAtLeast low x
at_least low x e =
    let g = sym (side_least x.0 x.1 x.2 low.0 low.1 low.2) ∙ e in
    let rest = (x.0 == low.0) && (nat_lt x.1 low.1 || ((x.1 == low.1) && nat_lt x.2 low.2)) in
    let says : (nat_lt x.0 low.0 || rest) ≡ true → ⊥ = λ t. cc (g, t) in record {
      index = elim (cases_lt x.0 low.0) [
        | inl l ↦ absurd (says (either_true (nat_lt x.0 low.0) rest (inl (lt-ltb _ _ l))))
        | inr m ↦ m
      ];
      body = λ s. elim (cases_lt x.1 low.1) [
        | inl l ↦ absurd (says (either_true (nat_lt x.0 low.0) rest (inr (and_from _ _ (eq-eqb _ _ s)
            (either_true (nat_lt x.1 low.1) _ (inl (lt-ltb _ _ l)))))))
        | inr m ↦ m
      ];
      bytes = λ s u. elim (cases_lt x.2 low.2) [
        | inl l ↦ absurd (says (either_true (nat_lt x.0 low.0) rest (inr (and_from _ _ (eq-eqb _ _ s)
            (either_true (nat_lt x.1 low.1) _ (inr (and_from _ _ (eq-eqb _ _ u) (lt-ltb _ _ l))))))))
        | inr m ↦ m
      ];
    }

record IsBetween (low : ℕ × ℕ × ℕ) (end : Option ℕ) (x : ℕ × ℕ × ℕ) : Type 0 where
  index : x.0 ≡ low.0
  body : x.1 ≡ low.1
  above : low.2 < x.2
  below : option_map_or (λ e. nat_lt x.2 e) end true ≡ true

between : (low : ℕ × ℕ × ℕ) (end : Option ℕ) (x : ℕ × ℕ × ℕ) → is_between low end x ≡ true → IsBetween low end x
between low end x t =
    let p = and_parts (x.0 == low.0) _ t in
    let q = and_parts (x.1 == low.1) _ p.1 in
    let r = and_parts (nat_lt low.2 x.2) _ q.1 in record {
      index = eqb-true _ _ p.0;
      body = eqb-true _ _ q.0;
      above = ltb-true _ _ r.0;
      below = r.1;
    }

-- A size that isn't above isn't between.
up_to_side : (low : ℕ × ℕ × ℕ) (end : Option ℕ) (x : ℕ × ℕ × ℕ) → nat_lt (size_side low x) 2 ≡ true
    → is_between low end x ≡ false
up_to_side low end x e = false_from_ne_true (is_between low end x) (λ t.
    let b = between low end x t in
    let index = b.index in
    let body = b.body in
    let above = b.above in
    let g = sym (side_size x.0 x.1 x.2 low.0 low.1 low.2) ∙ e in
    elim (or_cases (nat_lt x.0 low.0) _ g) [
      | inl l ↦ (let u = ltb-true x.0 low.0 l in omega (arith, u, index))
      | inr r ↦
          let s = and_parts (x.0 == low.0) _ r in
          elim (or_cases (nat_lt x.1 low.1) _ s.1) [
            | inl l ↦ (let u = ltb-true x.1 low.1 l in omega (arith, u, body))
            | inr v ↦ (let u = leb-true x.2 low.2 (and_parts (x.1 == low.1) _ v).1 in omega (arith, u, above))
          ]
    ])

-- What is below an end is so by less.
less_ends : (a b : ℕ) (end : Option ℕ) → a ≤ b → option_map_or (λ e. nat_lt b e) end true ≡ true
    → option_map_or (λ e. nat_lt a e) end true ≡ true
less_ends a b None l t = refl
less_ends a b (Some e) l t = let u = ltb-true b e t in lt-ltb a e (omega (arith, u, l))

module _ (low : ℕ × ℕ × ℕ) (end : Option ℕ) (xs : List (ℕ × ℕ × ℕ)) (k : ℕ) (sorted : IsSorted size_cmp xs)
    (below : AllWithin (λ x. nat_lt (size_side low x) 2 ≡ true) xs 0 k)
    (above : AllWithin (λ x. nat_lt (size_side low x) 2 ≡ false) xs k (length xs)) where
  none_before : AllWithin (λ x. is_between low end x ≡ false) xs 0 k
  none_before i d a h = up_to_side low end (get_or xs i d) (below i d a h)

  pub no_size : length xs ≤ k → false ≡ list_any (is_between low end) xs
  no_size l = none_hit (is_between low end) xs k none_before l

  pub one_size : (s : ℕ × ℕ × ℕ) → k < length xs → ((d : ℕ × ℕ × ℕ) → s ≡ get_or xs k d)
      → ((s.0 == low.0) && ((s.1 == low.1) && option_map_or (λ e. nat_lt s.2 e) end true))
      ≡ list_any (is_between low end) xs
  one_size s l same =
      let g = is_above low s (ap (λ x. nat_lt (size_side low x) 2) (same s) ∙ above k s (omega arith) l) in
      same_bool ((s.0 == low.0) && ((s.1 == low.1) && option_map_or (λ e. nat_lt s.2 e) end true)) (is_between low end s)
      (λ t.
      let p = and_parts (s.0 == low.0) _ t in
      let q = and_parts (s.1 == low.1) _ p.1 in
      and_from _ _ p.0 (and_from _ _ q.0 (and_from _ _
      (lt-ltb _ _ (g.bytes (eqb-true _ _ p.0) (eqb-true _ _ q.0))) q.1)))
      (λ t.
      let p = and_parts (s.0 == low.0) _ t in
      let q = and_parts (s.1 == low.1) _ p.1 in
      and_from _ _ p.0 (and_from _ _ q.0 (and_parts (nat_lt low.2 s.2) _ q.1).1))
      ∙ first_hit (is_between low end) xs k none_before s l same (λ j a h t.
      let y = get_or xs j s in
      let b = between low end y t in
      let up = sides_rise size_total (λ (z : ℕ × ℕ × ℕ). z) s xs sorted k j s a h in
      let tied : size_side s (get_or xs k s) ≡ 1 = ap (size_side s) (sym (same s)) ∙ ap ordering_index (tied_itself size_total s) in
      let higher = at_least s y (false_from_ne_true (nat_lt (size_side s y) 1) (λ u.
      let v = ltb-true (size_side s y) 1 u in omega (arith, up, tied, v))) in
      let i = b.index in
      let o = b.body in
      let hi = higher.index in
      let gi = g.index in
      let index : s.0 ≡ low.0 = omega (arith, gi, hi, i) in
      let gb = g.body index in
      let hb = higher.body (i ∙ sym index) in
      let body : s.1 ≡ low.1 = omega (arith, gb, hb, o) in
      and_from _ _ (eq-eqb _ _ index) (and_from _ _ (eq-eqb _ _ body) (and_from _ _ (lt-ltb _ _ (g.bytes index body))
      (less_ends s.2 y.2 end (higher.bytes (i ∙ sym index) (o ∙ sym body)) b.below))))

one_other : (i b c x y z : ℕ)
    → (((x == i) && ((y == b) && (nat_lt 0 z && nat_lt z c))) || ((x == i) && ((y == b) && (nat_lt c z && true))))
    ≡ (nat_lt 0 z && (x == i) && (y == b) && not (z == c))
one_other i b c x y z = grind arith

regroup : (f a g b h c : Bool) → (f || g) ≡ h → (a || b) ≡ c → ((f || a) || (g || b)) ≡ (h || c)
regroup f a g b h c e k = grind arith

any_other : (i b c : ℕ) (ss : List SegmentAtParts)
    → (list_any (is_between (i, b, 0) (Some c)) (map size_in ss) || list_any (is_between (i, b, c) None) (map size_in ss))
    ≡ list_any (is_other_than i b c) ss
any_other i b c [] = refl
any_other i b c (s ∷ ss) =
    let m = s.segment.numbers in
    regroup (is_between (i, b, 0) (Some c) (size_in s)) (list_any (is_between (i, b, 0) (Some c)) (map size_in ss))
    (is_between (i, b, c) None (size_in s)) (list_any (is_between (i, b, c) None) (map size_in ss)) (is_other_than i b c s)
    (list_any (is_other_than i b c) ss) (one_other i b c m.index_sid m.body_sid m.unit_bytes) (any_other i b c ss)

-- The sorted sizes are those of the segments.
pub other_sizes : (notes : List NoteParts) (i b c : ℕ) (sizes : List (ℕ × ℕ × ℕ))
    → IsPermutation (map size_in (segments_of notes)) sizes
    → (list_any (is_between (i, b, 0) (Some c)) sizes || list_any (is_between (i, b, c) None) sizes)
    ≡ list_any (is_other_than i b c) (segments_of notes)
other_sizes notes i b c sizes p =
    let low = is_between (i, b, 0) (Some c) in
    let high = is_between (i, b, c) None in
    let all = map size_in (segments_of notes) in
    ap (λ b. b || list_any high sizes) (sym (list_any-IsPermutation low all sizes p))
    ∙ ap (λ b. list_any low all || b) (sym (list_any-IsPermutation high all sizes p))
    ∙ any_other i b c (segments_of notes)
