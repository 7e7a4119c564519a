-- Which position a unit shows, by what it stores of the positions near it.
use Rattle.std.proofs.Common.{◌≡◌, ◌∙◌, ◌+◌, ◌-◌, ◌<◌, ◌≤◌, ℕ, zero, suc, refl, sym, ap, subst, inl, inr, arith}
use Rattle.std.proofs.Common.{Bool, cond, List, [], ◌∷◌, Option, Some, None, drop, get_or, length, max, min, take}
use Rattle.std.proofs.Common.{slice_get, slice_range, MatchOption}
use Rattle.std.specs.List.{filter_map, fold, reduce}
use Rattle.std.specs.Option.{option_and_then}
use Rattle.std.proofs.lemmas.Bool.{cases_lt, le-ltb, lt-ltb}
use Rattle.std.proofs.lemmas.Option.{none-some, same_Some, slice_get-get_or, slice_get_within}
use Rattle.mxf_klv.specs.Rising.{In}
use Rattle.mxf_klv.proofs.Lists.{In-filter_map}
use Rattle.mxf_units.specs.Units.{UnitsParts}
use Rattle.mxf_timed.specs.declared.shown.Stored.{Stored}
use Rattle.mxf_timed.specs.declared.shown.Stored.TheVariants.{Nothing, One, Several}
use Rattle.mxf_timed.specs.Shown.{AreShown, AreStored, IsShownBy, IsStoredIn, IsStoredWithin, ShownParts, Stores}
use Rattle.mxf_timed.specs.Shown.{IsGreatestShown, IsLeastShown, IsNoneShown, IsShownWithin, greatest_shown}
use Rattle.mxf_timed.specs.Shown.{least_shown, only_one, shown_by, stored_within}
use Rattle.mxf_timed.proofs.StoredLaws.{near}

-- What is shown by a unit stands at its place.
pub record StandsAt (s : ShownParts) (unit position : ℕ) : Type 0 where
  pub from_on : s.first ≤ unit
  pub stands : slice_get s.stored (unit - s.first) ≡ Some (One position)

one-only : (o : Option Stored) (p : ℕ) → option_and_then only_one o ≡ Some p → o ≡ Some (One p)
one-only None p e = absurd cc
one-only (Some Nothing) p e = absurd cc
one-only (Some (One q)) p e = ap (λ n. Some (One n)) (same_Some _ _ e)
one-only (Some Several) p e = absurd cc

pub stands-at : (s : ShownParts) (unit position : ℕ) → shown_by s unit ≡ Some position → StandsAt s unit position
stands-at s unit position e = elim (cases_lt unit s.first) [
  | inl l ↦ absurd (none-some position (sym (ap (λ (b : Bool). cond b None
      (option_and_then only_one (slice_get s.stored (unit - s.first)))) (lt-ltb unit s.first l)) ∙ e))
  | inr l ↦ record {
    from_on = l;
    stands = one-only _ position (sym (ap (λ (b : Bool). cond b None
        (option_and_then only_one (slice_get s.stored (unit - s.first)))) (le-ltb unit s.first l)) ∙ e);
  }
]

pub shown-at : (s : ShownParts) (unit position : ℕ) → s.first ≤ unit
    → slice_get s.stored (unit - s.first) ≡ Some (One position) → shown_by s unit ≡ Some position
shown-at s unit position l e =
    ap (λ (b : Bool). cond b None (option_and_then only_one (slice_get s.stored (unit - s.first))))
    (le-ltb unit s.first l) ∙ ap (option_and_then only_one) e

-- The positions that units from a first one up to a last one can store, if they can be asked for.
module _ (u : UnitsParts) (first count last : ℕ) (last_is : last + 1 ≡ first + count) (stored : List Stored)
    (len : length stored ≡ count)
    (are : AreStored u (first - 127) (min (last + 129) 9223372036854775808) first stored) where
  within : (unit p : ℕ) → first ≤ unit → unit < first + count → IsStoredIn u unit p
      → IsStoredWithin u (first - 127) (min (last + 129) 9223372036854775808) unit p
  within unit p l h s =
      let n = near u p in
      let a : unit ≤ p + 127 = subst (λ x. x ≤ p + 127) s.there n.high in
      let b : p ≤ unit + 128 = subst (λ x. p ≤ x + 128) s.there n.low in
      let c = s.asked in
      record { from_on = omega (arith, a, l); below = omega (arith, b, c, h, last_is); there = s.there }

  asked : (unit p : ℕ) → IsStoredWithin u (first - 127) (min (last + 129) 9223372036854775808) unit p
      → IsStoredIn u unit p
  asked unit p w = record { asked = let b = w.below in omega (arith, b); there = w.there }

  -- What stands at the place of a unit of the range.
  at_place : (unit : ℕ) (s : Stored) → first ≤ unit → slice_get stored (unit - first) ≡ Some s
      → Stores u (first - 127) (min (last + 129) 9223372036854775808) unit s
  at_place unit s l e =
      let there : first + (unit - first) ≡ unit = omega (arith, l) in
      subst (λ n. Stores u (first - 127) (min (last + 129) 9223372036854775808) n s) there (are (unit - first) s e)

  is-shown : (unit p : ℕ) → shown_by (record { first = first; stored = stored }) unit ≡ Some p
      → (first ≤ unit) × (unit < first + count) × IsShownBy u unit p
  is-shown unit p e =
      let a = stands-at (record { first = first; stored = stored }) unit p e in
      let l : first ≤ unit = a.from_on in
      let w = slice_get_within stored (unit - first) (One p) a.stands in
      let h : unit < first + count = omega (arith, w, len, l) in
      let s = at_place unit (One p) l a.stands in
      (l, h, record { stored = asked unit p s.0; only = λ other o. s.1 other (within unit other l h o) })

  found-one : (unit p : ℕ) (s : Stored) → IsShownBy u unit p → first ≤ unit → unit < first + count
      → Stores u (first - 127) (min (last + 129) 9223372036854775808) unit s → s ≡ One p
  found-one unit p Nothing i l h none = absurd (none p (within unit p l h i.stored))
  found-one unit p (One q) i l h one = ap (λ n. One n) (sym (one.1 p (within unit p l h i.stored)))
  found-one unit p Several i l h many =
      absurd (many.4 (i.only many.0 (asked unit many.0 many.2) ∙ sym (i.only many.1 (asked unit many.1 many.3))))

  shown-is : (unit p : ℕ) → (first ≤ unit) × (unit < first + count) × IsShownBy u unit p
      → shown_by (record { first = first; stored = stored }) unit ≡ Some p
  shown-is unit p i =
      let l = i.0 in let h = i.1 in
      let s = get_or stored (unit - first) Nothing in
      let found = slice_get-get_or stored (unit - first) Nothing (omega (arith, l, h, len)) in
      let one = found-one unit p s i.2 l h (at_place unit s l found) in
      shown-at (record { first = first; stored = stored }) unit p l (found ∙ ap (λ (x : Stored). Some x) one)

  pub are-shown : AreShown u first count (record { first = first; stored = stored })
  are-shown = λ unit p. (is-shown unit p, shown-is unit p)

-- ---- the least and the greatest

-- What stands in a list from one place up to another.
In-take : {K : Type 0} (xs : List K) (n k : ℕ) (x : K) → k < n → slice_get xs k ≡ Some x → In x (take n xs)
In-take [] n k x l e = absurd cc
In-take (y ∷ xs) zero k x l e = absurd (omega (arith, l))
In-take (y ∷ xs) (suc n) zero x l e = inl (sym (same_Some _ _ e))
In-take (y ∷ xs) (suc n) (suc k) x l e = inr (In-take xs n k x (omega (arith, l)) e)

take-get : {K : Type 0} (xs : List K) (n : ℕ) (x : K) → In x (take n xs)
    → (k : ℕ) × (k < n) × (slice_get xs k ≡ Some x)
take-get [] zero x h = absurd h
take-get [] (suc n) x h = absurd h
take-get (y ∷ xs) zero x h = absurd h
take-get (y ∷ xs) (suc n) x (inl e) = (0, omega arith, ap (λ z. Some z) (sym e))
take-get (y ∷ xs) (suc n) x (inr h) =
    let i = take-get xs n x h in
    let l = i.1 in (suc i.0, omega (arith, l), i.2)

drop-get : {K : Type 0} (xs : List K) (n k : ℕ) → slice_get (drop n xs) k ≡ slice_get xs (n + k)
drop-get [] zero k = refl
drop-get [] (suc n) k = refl
drop-get (y ∷ xs) zero k = let same : k ≡ 0 + k = omega arith in ap (slice_get (y ∷ xs)) same
drop-get (y ∷ xs) (suc n) k =
    let same : suc (n + k) ≡ suc n + k = omega arith in drop-get xs n k ∙ ap (slice_get (y ∷ xs)) same

In-range : {K : Type 0} (xs : List K) (a b k : ℕ) (x : K) → a ≤ k → k < b → slice_get xs k ≡ Some x
    → In x (slice_range xs a b)
In-range xs a b k x l h e =
    let there : a + (k - a) ≡ k = omega (arith, l) in
    In-take (drop a xs) (b - a) (k - a) x (omega (arith, l, h)) (drop-get xs a (k - a) ∙ ap (slice_get xs) there ∙ e)

range-get : {K : Type 0} (xs : List K) (a b : ℕ) (x : K) → In x (slice_range xs a b)
    → (k : ℕ) × (a ≤ k) × (k < b) × (slice_get xs k ≡ Some x)
range-get xs a b x h =
    let i = take-get (drop a xs) (b - a) x h in
    let l = i.1 in (a + i.0, omega arith, omega (arith, l), sym (drop-get xs a i.0) ∙ i.2)

shown-In : (s : ShownParts) (first last p : ℕ) → IsShownWithin s first last p
    → In p (filter_map only_one (stored_within s first last))
shown-In s first last p w =
    let a = stands-at s w.unit p w.shown in
    let end = min (last + 1 - s.first) (length s.stored) in
    let on = a.from_on in
    let from = w.from in
    let to = w.to in
    let within = slice_get_within s.stored (w.unit - s.first) (One p) a.stands in
    (In-filter_map only_one (stored_within s first last) p).1 (
      One p,
      In-range s.stored (min (first - s.first) end) end (w.unit - s.first) (One p) (omega (arith, on, from))
          (omega (arith, on, to, within)) a.stands,
      refl,
    )

In-shown : (s : ShownParts) (first last p : ℕ) → In p (filter_map only_one (stored_within s first last))
    → IsShownWithin s first last p
In-shown s first last p h =
    let end = min (last + 1 - s.first) (length s.stored) in
    let i = (In-filter_map only_one (stored_within s first last) p).0 h in
    let at = range-get s.stored (min (first - s.first) end) end i.0 i.1 in
    let one = one-only (Some i.0) p i.2 in
    let place : s.first + at.0 - s.first ≡ at.0 = omega arith in
    let low = at.1 in
    let high = at.2 in
    record {
      unit = s.first + at.0;
      from = omega (arith, low, high);
      to = omega (arith, high);
      shown = shown-at s (s.first + at.0) p (omega arith) (ap (slice_get s.stored) place ∙ at.3 ∙ one);
    }

least-fold : (x : ℕ) (xs : List ℕ) → In (fold min x xs) (x ∷ xs) × (fold min x xs ≤ x)
    × ((y : ℕ) → In y xs → fold min x xs ≤ y)
least-fold x [] = (inl refl, omega arith, λ y h. absurd h)
least-fold x (z ∷ xs) = let ih = least-fold (min x z) xs in (
  elim ih.0 [
    | inl e ↦ elim (cases_lt x z) [ inl l ↦ inl (omega (arith, e, l)) | inr l ↦ inr (inl (omega (arith, e, l))) ]
    | inr h ↦ inr (inr h)
  ],
  let l = ih.1 in omega (arith, l),
  λ y h. elim h [ inl e ↦ (let l = ih.1 in omega (arith, l, e)) | inr k ↦ ih.2 y k ],
)

greatest-fold : (x : ℕ) (xs : List ℕ) → In (fold max x xs) (x ∷ xs) × (x ≤ fold max x xs)
    × ((y : ℕ) → In y xs → y ≤ fold max x xs)
greatest-fold x [] = (inl refl, omega arith, λ y h. absurd h)
greatest-fold x (z ∷ xs) = let ih = greatest-fold (max x z) xs in (
  elim ih.0 [
    | inl e ↦ elim (cases_lt x z) [ inl l ↦ inr (inl (omega (arith, e, l))) | inr l ↦ inl (omega (arith, e, l)) ]
    | inr h ↦ inr (inr h)
  ],
  let l = ih.1 in omega (arith, l),
  λ y h. elim h [ inl e ↦ (let l = ih.1 in omega (arith, l, e)) | inr k ↦ ih.2 y k ],
)

-- Some positions are all that are shown by units from one up to another.
record AreAllShown (s : ShownParts) (first last : ℕ) (xs : List ℕ) : Type 0 where
  held : (p : ℕ) → IsShownWithin s first last p → In p xs
  shown : (p : ℕ) → In p xs → IsShownWithin s first last p

least-of : (s : ShownParts) (first last : ℕ) (xs : List ℕ) → AreAllShown s first last xs
    → MatchOption (reduce min xs) (IsNoneShown s first last) (IsLeastShown s first last)
least-of s first last [] a = λ p w. a.held p w
least-of s first last (x ∷ xs) a =
    let f = least-fold x xs in
    record {
      some = a.shown (fold min x xs) f.0;
      no_less = λ p w. elim (a.held p w) [ inl q ↦ (let l = f.1 in omega (arith, l, q)) | inr h ↦ f.2 p h ];
    }

greatest-of : (s : ShownParts) (first last : ℕ) (xs : List ℕ) → AreAllShown s first last xs
    → MatchOption (reduce max xs) (IsNoneShown s first last) (IsGreatestShown s first last)
greatest-of s first last [] a = λ p w. a.held p w
greatest-of s first last (x ∷ xs) a =
    let f = greatest-fold x xs in
    record {
      some = a.shown (fold max x xs) f.0;
      no_greater = λ p w. elim (a.held p w) [ inl q ↦ (let l = f.1 in omega (arith, l, q)) | inr h ↦ f.2 p h ];
    }

all-shown : (s : ShownParts) (first last : ℕ) → AreAllShown s first last (filter_map only_one (stored_within s first last))
all-shown s first last = record { held = shown-In s first last; shown = In-shown s first last }

pub least-shown : (s : ShownParts) (first last : ℕ)
    → MatchOption (least_shown s first last) (IsNoneShown s first last) (IsLeastShown s first last)
least-shown s first last = least-of s first last (filter_map only_one (stored_within s first last)) (all-shown s first last)

pub greatest-shown : (s : ShownParts) (first last : ℕ)
    → MatchOption (greatest_shown s first last) (IsNoneShown s first last) (IsGreatestShown s first last)
greatest-shown s first last =
    greatest-of s first last (filter_map only_one (stored_within s first last)) (all-shown s first last)
