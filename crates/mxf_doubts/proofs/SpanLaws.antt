-- Where sets lie, and whether one lies in a zone.
use Rattle.mxf_views.proofs.Common.{◌≡◌, ◌+◌, ◌≤◌, ◌<◌, ℕ, zero, suc, true, false, List, [], ◌∷◌, ◌&&◌, ◌||◌}
use Rattle.mxf_views.proofs.Common.{sym, ap, refl, arith, length, map, nat_le, get_or, AllWithin, In, list_any, list_any-In}
use Rattle.mxf_views.proofs.Common.{and_from, and_parts, same_bool, le-leb, leb-true, subst, cases_lt, inl, inr}
use Rattle.mxf_views.proofs.Common.{false_from_ne_true, Option, Some, None, NoteParts, end_of}
use Rattle.std.specs.List.Sorted.{IsNonDecreasingBy}
use Rattle.mxf_klv.proofs.Lists.{In-at}
use Rattle.mxf_catalogue.specs.Disputes.{AreApart}
use Rattle.mxf_views.specs.Labels.{is_in_zone}
use Rattle.mxf_doubts.specs.declared.spans.Span.{Span}
use Rattle.mxf_doubts.specs.Header.{is_within, span_of}

-- A set lies in a zone if and only if its span does.
pub any_span : (bytes : ℕ) (start : Option ℕ) (notes : List NoteParts)
    → list_any (λ (n : NoteParts). is_in_zone n bytes start) notes ≡ list_any (is_within bytes start) (map span_of notes)
any_span bytes None [] = refl
any_span bytes None (n ∷ notes) = any_span bytes None notes
any_span bytes (Some s) [] = refl
any_span bytes (Some s) (n ∷ notes) =
    ap (λ b. (nat_le s n.offset && nat_le (end_of n) (s + bytes)) || b) (any_span bytes (Some s) notes)

-- Notes that stand apart begin and end one after another.
below_end : (n : NoteParts) → n.offset ≤ end_of n
below_end n = omega arith

not_before : (low : ℕ) (notes : List NoteParts) (i : ℕ) (d : Span) → AreApart low notes → i < length (map span_of notes)
    → low ≤ (get_or (map span_of notes) i d).start
not_before low [] i d a h = absurd (omega arith)
not_before low (n ∷ notes) zero d a h = a.0
not_before low (n ∷ notes) (suc i) d a h =
    let l = not_before (end_of n) notes i d a.1 (omega arith) in omega (arith, l, a.0, below_end n)

span_grows : (notes : List NoteParts) (i : ℕ) (d : Span) → i < length (map span_of notes)
    → (get_or (map span_of notes) i d).start ≤ (get_or (map span_of notes) i d).end
span_grows [] i d h = absurd (omega arith)
span_grows (n ∷ notes) zero d h = below_end n
span_grows (n ∷ notes) (suc i) d h = span_grows notes i d (omega arith)

pub starts_rise : (low : ℕ) (notes : List NoteParts) → AreApart low notes
    → IsNonDecreasingBy (λ (s : Span). s.start) (map span_of notes)
starts_rise low [] a i j d l h = absurd (omega arith)
starts_rise low (n ∷ notes) a zero zero d l h = omega arith
starts_rise low (n ∷ notes) a zero (suc j) d l h =
    let m = not_before (end_of n) notes j d a.1 (omega arith) in omega (arith, m, below_end n)
starts_rise low (n ∷ notes) a (suc i) zero d l h = absurd (omega arith)
starts_rise low (n ∷ notes) a (suc i) (suc j) d l h = starts_rise (end_of n) notes a.1 i j d (omega arith) (omega arith)

pub ends_rise : (low : ℕ) (notes : List NoteParts) → AreApart low notes
    → IsNonDecreasingBy (λ (s : Span). s.end) (map span_of notes)
ends_rise low [] a i j d l h = absurd (omega arith)
ends_rise low (n ∷ notes) a zero zero d l h = omega arith
ends_rise low (n ∷ notes) a zero (suc j) d l h =
    let m = not_before (end_of n) notes j d a.1 (omega arith) in
    let g = span_grows notes j d (omega arith) in
    omega (arith, m, g)
ends_rise low (n ∷ notes) a (suc i) zero d l h = absurd (omega arith)
ends_rise low (n ∷ notes) a (suc i) (suc j) d l h = ends_rise (end_of n) notes a.1 i j d (omega arith) (omega arith)

-- ---- One search tells whether one lies in a zone.

place_of : (x : Span) (xs : List Span) → In x xs → (i : ℕ) × (i < length xs) × ((d : Span) → get_or xs i d ≡ x)
place_of x [] i = absurd i
place_of x (y ∷ xs) (inl e) = (0, omega arith, λ d. sym e)
place_of x (y ∷ xs) (inr i) = let r = place_of x xs i in (suc r.0, omega (arith, r.1), r.2)

-- Where those that begin below a start end.
pub record IsPlace (start : ℕ) (spans : List Span) (k : ℕ) : Type 0 where
  pub below : AllWithin (λ (s : Span). s.start < start) spans 0 k
  pub above : AllWithin (λ (s : Span). start ≤ s.start) spans k (length spans)

-- What lies in the zone stands at that place or behind.
has_place : (start bytes : ℕ) (spans : List Span) (k : ℕ) → IsPlace start spans k
    → list_any (is_within bytes (Some start)) spans ≡ true
    → (i : ℕ) × (k ≤ i) × (i < length spans) × ((d : Span) → (get_or spans i d).end ≤ start + bytes)
has_place start bytes spans k p t =
    let s = (list_any-In (is_within bytes (Some start)) spans).0 t in
    let at = place_of s.0 spans s.1 in
    let both = and_parts (nat_le start s.0.start) (nat_le s.0.end (start + bytes)) s.2 in
    let from = leb-true _ _ both.0 in
    let high : k ≤ at.0 = elim (cases_lt at.0 k) [
      | inl l ↦ absurd (
          let b = p.below at.0 s.0 (omega arith) l in
          let e = ap (λ (y : Span). y.start) (at.2 s.0) in
          omega (arith, b, e, from))
      | inr m ↦ m
    ] in
    (at.0, high, at.1, λ d. let e = ap (λ (y : Span). y.end) (at.2 d) in let l = leb-true _ _ both.1 in omega (arith, e, l))

pub none_behind : (start bytes : ℕ) (spans : List Span) (k : ℕ) → IsPlace start spans k → length spans ≤ k
    → false ≡ list_any (is_within bytes (Some start)) spans
none_behind start bytes spans k p l =
    sym (false_from_ne_true (list_any (is_within bytes (Some start)) spans)
    (λ t. let h = has_place start bytes spans k p t in omega (arith, h.1, h.2, l)))

pub first_behind : (start bytes : ℕ) (spans : List Span) (k : ℕ) (s : Span) → IsPlace start spans k
    → IsNonDecreasingBy (λ (s : Span). s.end) spans → k < length spans → ((d : Span) → s ≡ get_or spans k d)
    → nat_le s.end (start + bytes) ≡ list_any (is_within bytes (Some start)) spans
first_behind start bytes spans k s p up l same =
    same_bool (nat_le s.end (start + bytes)) (list_any (is_within bytes (Some start)) spans) (λ t.
    let a = p.above k s (omega arith) l in
    let e = ap (λ (y : Span). y.start) (same s) in
    (list_any-In (is_within bytes (Some start)) spans).1 (
      s,
      subst (λ (y : Span). In y spans) (sym (same s)) (In-at spans k s l),
      and_from _ _ (le-leb _ _ (omega (arith, a, e))) t,
    )) (λ t.
    let h = has_place start bytes spans k p t in
    let m = up k h.0 s h.1 h.2 in
    let e = ap (λ (y : Span). y.end) (same s) in
    let n = h.3 s in
    le-leb _ _ (omega (arith, m, e, n)))

pub none_within : (bytes : ℕ) (spans : List Span) → false ≡ list_any (is_within bytes None) spans
none_within bytes [] = refl
none_within bytes (s ∷ spans) = none_within bytes spans
