-- Where segments of an index stand and begin, and which places lie between them.
use Rattle.mxf_views.proofs.Common.{◌≡◌, ◌↔◌, ◌+◌, ◌-◌, ◌<◌, ◌≤◌, ℕ, zero, suc, false, IsTrue, List, [], ◌∷◌, arith, ap}
use Rattle.mxf_views.proofs.Common.{get_or, inl, inr, length, map, max, min, nat_lt, subst, sym, AllWithin, list_all}
use Rattle.mxf_views.proofs.Common.{IsNonDecreasingBy, leb_tells, get_or-map, get_or-reverse, length-map}
use Rattle.mxf_views.proofs.Common.{length-reverse, In, Contains-from_In, In-at, In-list_all, list_all-In, list_any-In}
use Rattle.mxf_views.proofs.Common.{same_bool}
use Rattle.std.specs.Prelude.{reverse}
use Rattle.std.proofs.lemmas.Bool.{lt-ltb, ltb-true}
use Rattle.std.proofs.lemmas.Grind.{get_or_default_zero}
use Rattle.mxf_partial.specs.SegmentStarts.{greatest_so_far, is_apart, is_between_any, least_so_far}
use Rattle.mxf_partial.specs.declared.between.SegmentStart.{SegmentStart}

abbrev pub first_unit : SegmentStart → ℕ
first_unit s = s.unit

abbrev offset_of : SegmentStart → ℕ
offset_of s = s.offset

-- ---- the greatest and the least of some numbers

pub length-greatest : (m : ℕ) (xs : List ℕ) → length (greatest_so_far m xs) ≡ length xs + 1
length-greatest m [] = omega arith
length-greatest m (x ∷ xs) = omega (arith, length-greatest (max m x) xs)

pub length-least : (m : ℕ) (xs : List ℕ) → length (least_so_far m xs) ≡ length xs + 1
length-least m [] = omega arith
length-least m (x ∷ xs) = omega (arith, length-least (min m x) xs)

-- What holds of the first and of each of some others.
each_front : (P : ℕ → Type 0) (x : ℕ) (xs : List ℕ) (k : ℕ) → P x → ((j e : ℕ) → j < k → P (get_or xs j e))
    → (j e : ℕ) → j < suc k → P (get_or (x ∷ xs) j e)
each_front P x xs k p f zero e l = p
each_front P x xs k p f (suc j) e l = f j e (omega arith)

greatest_at : (m : ℕ) (xs : List ℕ) (k d u : ℕ) → k ≤ length xs
    → (get_or (greatest_so_far m xs) k d ≤ u) ↔ ((m ≤ u) × ((j e : ℕ) → j < k → get_or xs j e ≤ u))
greatest_at m [] zero d u h = (λ l. (l, λ j e i. absurd (omega arith)), λ l. l.0)
greatest_at m [] (suc k) d u h = absurd (omega arith)
greatest_at m (x ∷ xs) zero d u h = (λ l. (l, λ j e i. absurd (omega arith)), λ l. l.0)
greatest_at m (x ∷ xs) (suc k) d u h =
    let ih = greatest_at (max m x) xs k d u (omega arith) in (
      λ l.
          let p = ih.0 l in
          let a : max m x ≤ u = p.0 in
          (omega (arith, a), each_front (λ y. y ≤ u) x xs k (omega (arith, a)) p.1),
      λ l.
          let a : m ≤ u = l.0 in
          let b : x ≤ u = l.1 0 0 (omega arith) in
          ih.1 (omega (arith, a, b), λ j e i. l.1 (suc j) e (omega arith)),
    )

least_at : (m : ℕ) (xs : List ℕ) (k d u : ℕ) → k ≤ length xs
    → (u < get_or (least_so_far m xs) k d) ↔ ((u < m) × ((j e : ℕ) → j < k → u < get_or xs j e))
least_at m [] zero d u h = (λ l. (l, λ j e i. absurd (omega arith)), λ l. l.0)
least_at m [] (suc k) d u h = absurd (omega arith)
least_at m (x ∷ xs) zero d u h = (λ l. (l, λ j e i. absurd (omega arith)), λ l. l.0)
least_at m (x ∷ xs) (suc k) d u h =
    let ih = least_at (min m x) xs k d u (omega arith) in (
      λ l.
          let p = ih.0 l in
          let a : u < min m x = p.0 in
          (omega (arith, a), each_front (λ y. u < y) x xs k (omega (arith, a)) p.1),
      λ l.
          let a : u < m = l.0 in
          let b : u < x = l.1 0 0 (omega arith) in
          ih.1 (omega (arith, a, b), λ j e i. l.1 (suc j) e (omega arith)),
    )

-- ---- by where segments stand

module _ (starts : List SegmentStart) (x k : ℕ) where
  -- The greatest of those that stand at an offset or before it.
  pub low_says : (d u : ℕ) → k ≤ length starts
      → AllWithin (λ s. s.offset ≤ x) starts 0 k → AllWithin (λ s. x < s.offset) starts k (length starts)
      → (get_or (greatest_so_far 0 (map first_unit starts)) k d ≤ u)
      ↔ ((s : SegmentStart) → In s starts → s.offset ≤ x → s.unit ≤ u)
  low_says d u h below above =
      let at = greatest_at 0 (map first_unit starts) k d u (omega (arith, length-map starts first_unit)) in (
        λ l s i o.
            let c = Contains-from_In s starts i in
            let within : c.0 < length starts = c.1 in
            let first : c.0 < k = elim (leb_tells k c.0) [
              | inl t ↦
                  let t1 : k ≤ c.0 = t.1 in
                  let a : x < offset_of (get_or starts c.0 s) = above c.0 s t1 within in
                  let e = ap offset_of c.2 in
                  absurd (omega (arith, a, e, o))
              | inr t ↦ t.1
            ] in
            let a : get_or (map first_unit starts) c.0 s.unit ≤ u = (at.0 l).1 c.0 s.unit first in
            let b = get_or-map first_unit starts c.0 s s.unit within in
            let e = ap first_unit c.2 in
            omega (arith, a, b, e),
        λ f. at.1 (
          omega arith,
          λ j e i.
              let z : SegmentStart = record { offset = 0; unit = 0 } in
              let within : j < length starts = omega (arith, i, h) in
              let b = get_or-map first_unit starts j z e within in
              let a : first_unit (get_or starts j z) ≤ u = f (get_or starts j z) (In-at starts j z within)
              (below j z (omega arith) i) in
              omega (arith, a, b),
        ),
      )

  -- The least of those that stand at an offset or behind it.
  pub high_says : (m d u : ℕ) → k ≤ length starts → u < m
      → AllWithin (λ s. s.offset < x) starts 0 k → AllWithin (λ s. x ≤ s.offset) starts k (length starts)
      → (u < get_or (least_so_far m (reverse (map first_unit starts))) (length starts - k) d)
      ↔ ((s : SegmentStart) → In s starts → x ≤ s.offset → u < s.unit)
  high_says m d u h less below above =
      let us = map first_unit starts in
      let count : length us ≡ length starts = length-map starts first_unit in
      let at = least_at m (reverse us) (length starts - k) d u (omega (arith, count, length-reverse us)) in (
        λ l s i o.
            let c = Contains-from_In s starts i in
            let within : c.0 < length starts = c.1 in
            let last : k ≤ c.0 = elim (leb_tells k c.0) [
              | inl t ↦ t.1
              | inr t ↦
                  let t1 : c.0 < k = t.1 in
                  let a : offset_of (get_or starts c.0 s) < x = below c.0 s (omega arith) t1 in
                  let e = ap offset_of c.2 in
                  absurd (omega (arith, a, e, o))
            ] in
            let j = length starts - 1 - c.0 in
            let a : u < get_or (reverse us) j s.unit = (at.0 l).1 j s.unit (omega (arith, within, last)) in
            let r : get_or (reverse us) j s.unit ≡ get_or us (length us - 1 - j) s.unit =
            get_or-reverse us j s.unit (omega (arith, within, count)) in
            let same : length us - 1 - j ≡ c.0 = omega (arith, within, count) in
            let r2 = ap (λ n. get_or us n s.unit) same in
            let b = get_or-map first_unit starts c.0 s s.unit within in
            let e = ap first_unit c.2 in
            omega (arith, a, r, r2, b, e),
        λ f. at.1 (
          less,
          λ j e i.
              let z : SegmentStart = record { offset = 0; unit = 0 } in
              let n = length us - 1 - j in
              let within : n < length starts = omega (arith, i, h, count) in
              let r : get_or (reverse us) j e ≡ get_or us n e = get_or-reverse us j e (omega (arith, i, h, count)) in
              let b : get_or us n e ≡ first_unit (get_or starts n z) = get_or-map first_unit starts n z e within in
              let a : u < first_unit (get_or starts n z) = f (get_or starts n z) (In-at starts n z within)
              (above n z (omega (arith, i, h, count)) within) in
              omega (arith, a, b, r),
        ),
      )

-- ---- between them

-- What stands before the place begins at the unit or before it, and what stands behind the place behind it.
abbrev pub IsApart : ℕ → ℕ → SegmentStart → Type 0
IsApart u x s = (s.unit ≤ u → s.offset < x) × (u < s.unit → x < s.offset)

pub apart_says : (u x : ℕ) (s : SegmentStart) → IsTrue (is_apart u x s) ↔ IsApart u x s
apart_says u x s = grind (arith, leb_tells, ltb-true, lt-ltb)

pub all_apart : (u x : ℕ) (starts : List SegmentStart) → IsTrue (list_all (is_apart u x) starts)
    ↔ (((s : SegmentStart) → In s starts → s.offset ≤ x → s.unit ≤ u)
    × ((s : SegmentStart) → In s starts → x ≤ s.offset → u < s.unit))
all_apart u x starts = grind (arith, apart_says, list_all-In, leb_tells, In-list_all)

pub between_any : (starts : List SegmentStart) (numbers : List ℕ) (x : ℕ) → IsTrue (is_between_any starts numbers x)
    ↔ ((u : ℕ) × In u numbers × IsTrue (list_all (is_apart u x) starts))
unfolding is_between_any
between_any starts numbers x = list_any-In (λ u. list_all (is_apart u x) starts) numbers

-- The least number that isn't below the one bound tells whether some number lies between both.
module _ (starts : List SegmentStart) (numbers : List ℕ) (x low k : ℕ)
    (low_is : (u : ℕ) → (low ≤ u) ↔ ((s : SegmentStart) → In s starts → s.offset ≤ x → s.unit ≤ u))
    (below : AllWithin (λ n. n < low) numbers 0 k) where
  from : (u : ℕ) → In u numbers → low ≤ u → (j : ℕ) × (j < length numbers) × (k ≤ j) × (get_or numbers j u ≡ u)
  from u i l = grind (arith, Contains-from_In, leb_tells)

  pub none_between : length numbers ≤ k → false ≡ is_between_any starts numbers x
  none_between past = same_bool false (is_between_any starts numbers x) (λ h. absurd cc) (λ h.
      let b = (between_any starts numbers x).0 h in
      let f = from b.0 b.1 ((low_is b.0).1 ((all_apart b.0 x starts).0 b.2).0) in
      let inside : f.0 < length numbers = f.1 in
      let after : k ≤ f.0 = f.2 in
      absurd (omega (arith, inside, after)))

  pub one_between : (high m : ℕ) → ((u : ℕ) → u < 18446744073709551616
      → (u < high) ↔ ((s : SegmentStart) → In s starts → x ≤ s.offset → u < s.unit))
      → ((j : ℕ) → get_or numbers j 0 < 18446744073709551616)
      → IsNonDecreasingBy (λ n. n) numbers → AllWithin (λ n. low ≤ n) numbers k (length numbers)
      → k < length numbers → m ≡ get_or numbers k m → nat_lt m high ≡ is_between_any starts numbers x
  one_between high m high_is fits rising above within is =
      let small = λ (j : ℕ) (d : ℕ) (l : j < length numbers).
      subst (λ n. n < 18446744073709551616) (sym (get_or_default_zero numbers j d l)) (fits j) in
      let at : low ≤ get_or numbers k m = above k m (omega arith) within in
      let less : get_or numbers k m < 18446744073709551616 = small k m within in
      same_bool (nat_lt m high) (is_between_any starts numbers x) (λ h.
      (between_any starts numbers x).1 (
        m,
        subst (λ n. In n numbers) (sym is) (In-at numbers k m within),
        (all_apart m x starts).1 (
          (low_is m).0 (omega (arith, at, is)),
          (high_is m (omega (arith, less, is))).0 (ltb-true m high h),
        ),
      )) (λ h.
      let b = (between_any starts numbers x).0 h in
      let p = (all_apart b.0 x starts).0 b.2 in
      let f = from b.0 b.1 ((low_is b.0).1 p.0) in
      let inside : f.0 < length numbers = f.1 in
      let there : get_or numbers f.0 b.0 ≡ b.0 = f.3 in
      let fit : get_or numbers f.0 b.0 < 18446744073709551616 = small f.0 b.0 inside in
      let below_high : b.0 < high = (high_is b.0 (omega (arith, fit, there))).1 p.1 in
      let order : get_or numbers k m ≤ get_or numbers f.0 m = rising k f.0 m f.2 inside in
      let e = get_or_default_zero numbers f.0 m inside in
      let g = get_or_default_zero numbers f.0 b.0 inside in
      lt-ltb m high (omega (arith, below_high, order, is, there, e, g)))
