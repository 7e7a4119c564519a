-- Places that rise: which of them has an offset.
use Rattle.mxf_views.proofs.Common.{◌≡◌, ◌<◌, ◌≤◌, ℕ, zero, suc, List, [], ◌∷◌, Some, refl, sym, ap, subst, arith, inl}
use Rattle.mxf_views.proofs.Common.{inr, length, get_or, slice_get, IfNone, AllWithin, IsNonDecreasingBy, In, LiesIn}
use Rattle.mxf_catalogue.specs.declared.run.Run.{Run}
use Rattle.std.specs.Prelude.{None, Option}
use Rattle.mxf_hand.specs.Places.{AreApart, ArePlaces, LiesInPlace}
use Rattle.mxf_hand.specs.declared.given.Extent.{Extent}
use Rattle.mxf_hand.specs.declared.given.Place.{Place}

-- each of the places has an offset
abbrev pub HaveOffsets : List Place → Type 0
HaveOffsets ps = (p : Place) → In p ps → p.start < p.end

-- each place lies at or above the end before it
pub from_low : (low : ℕ) (ps : List Place) (p : Place) → AreApart low ps → HaveOffsets ps → In p ps → low ≤ p.start
from_low low [] p a some h = absurd h
from_low low (q ∷ ps) p a some (inl e) =
    let b : low ≤ q.start = a.0 in let f = ap (λ (r : Place). r.start) e in omega arith
from_low low (q ∷ ps) p a some (inr h) =
    let b : low ≤ q.start = a.0 in
    let s = some q (inl refl) in
    let l = from_low q.end ps p a.1 (λ r k. some r (inr k)) h in
    omega arith

-- the same at a number
end_above : (low : ℕ) (ps : List Place) (j : ℕ) (d : Place) → AreApart low ps → HaveOffsets ps → j < length ps
    → low ≤ (get_or ps j d).end
end_above low [] j d a some h = absurd (omega arith)
end_above low (p ∷ ps) zero d a some h = let b : low ≤ p.start = a.0 in let s = some p (inl refl) in omega arith
end_above low (p ∷ ps) (suc j) d a some h =
    let b : low ≤ p.start = a.0 in
    let s = some p (inl refl) in
    let l = end_above p.end ps j d a.1 (λ r k. some r (inr k)) (omega arith) in
    omega arith

-- so their ends never fall
pub ends_never_fall : (low : ℕ) (ps : List Place) → AreApart low ps → HaveOffsets ps → IsNonDecreasingBy (λ p. p.end) ps
ends_never_fall low [] a some i j d l h = absurd (omega arith)
ends_never_fall low (p ∷ ps) a some zero zero d l h = omega arith
ends_never_fall low (p ∷ ps) a some zero (suc j) d l h =
    end_above p.end ps j d a.1 (λ r k. some r (inr k)) (omega arith)
ends_never_fall low (p ∷ ps) a some (suc i) zero d l h = absurd (omega arith)
ends_never_fall low (p ∷ ps) a some (suc i) (suc j) d l h =
    ends_never_fall p.end ps a.1 (λ r k. some r (inr k)) i j d (omega arith) (omega arith)

-- the first place that ends above the offset has it, where it doesn't begin above
pub first_above : (ps : List Place) (x k : ℕ) (p : Place) → slice_get ps k ≡ Some p
    → AllWithin (λ q. x < q.end) ps k (length ps) → In p ps × (x < p.end)
first_above [] x k p e above = absurd cc
first_above (q ∷ ps) x zero p e above =
    let same : q ≡ p = cc in
    let l : x < q.end = above 0 q (omega arith) (omega arith) in
    (inl (sym same), subst (λ (r : Place). x < r.end) same l)
first_above (q ∷ ps) x (suc k) p e above =
    let ih = first_above ps x k p e (λ j d m n. above (suc j) d (omega arith) (omega arith)) in
    (inr ih.0, ih.1)

-- else none has it
pub none_has : (low : ℕ) (ps : List Place) (x k : ℕ) → AreApart low ps → HaveOffsets ps
    → AllWithin (λ q. q.end ≤ x) ps 0 k → ((q : Place) → slice_get ps k ≡ Some q → x < q.start) → (p : Place)
    → In p ps → ¬ LiesInPlace p x
none_has low [] x k a some below next p h at = absurd h
none_has low (q ∷ ps) x zero a some below next p h at =
    let l : x < q.start = next q refl in
    let s = some q (inl refl) in
    let from = at.from in
    elim h [
      | inl e ↦ let f = ap (λ (r : Place). r.start) e in omega arith
      | inr m ↦ let g = from_low q.end ps p a.1 (λ r t. some r (inr t)) m in omega arith
    ]
none_has low (q ∷ ps) x (suc k) a some below next p (inl e) at =
    let l : q.end ≤ x = below 0 q (omega arith) (omega arith) in
    let f = ap (λ (r : Place). r.end) e in
    let before = at.before in
    omega arith
none_has low (q ∷ ps) x (suc k) a some below next p (inr h) at = none_has q.end ps x k a.1 (λ r t. some r (inr t))
    (λ j d m n. below (suc j) d (omega arith) (omega arith)) next p h at

-- what no place has isn't given
pub none_given : (extents : List Extent) (places others : List Place) (runs : List Run) (x : ℕ) (r : Option Place)
    → ArePlaces extents places others runs → IfNone r ((p : Place) → In p places → ¬ LiesInPlace p x)
    → IfNone r (¬ LiesIn runs x)
none_given extents places others runs x (Some p) a none = tt
none_given extents places others runs x None a none = λ lies. let s = (a.given x).0 lies in none s.0 s.1 s.2

pub have_offsets : (extents : List Extent) (places others : List Place) (runs : List Run)
    → ArePlaces extents places others runs → HaveOffsets places
have_offsets extents places others runs a p h = (a.within p h).some
