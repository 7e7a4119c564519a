-- The first and the last of places that a note holds a byte of, by the two orders of places.
use Rattle.mxf_views.proofs.Common.{◌≡◌, ◌⊎◌, ◌∙◌, ◌<◌, ◌≤◌, ◌-◌, ℕ, Bool, false, List, Option, None, Some}
use Rattle.mxf_views.proofs.Common.{refl, sym, ap, subst, inl, inr, arith, get_or, length, max, reverse}
use Rattle.mxf_views.proofs.Common.{if◌then◌else◌, IsTotalOrder, AllWithin, IsNonDecreasing, IsPermutation, is_lt}
use Rattle.mxf_views.proofs.Common.{nat_cmp, ordering_then, Ordering, cases_lt, nat_cmp_total}
use Rattle.mxf_views.proofs.Common.{on_total, then_total, get_or-reverse, get_or_default, length-reverse, covered_end}
use Rattle.mxf_views.proofs.Common.{greatest_end, NoteParts, In, SameMembers, Contains-from_In, In-at}
use Rattle.std.specs.List.Sorted.{IsSortedByKey}
use Rattle.std.proofs.lemmas.Bool.{ltb-true, lt-ltb}
use Rattle.std.proofs.lemmas.Cmp.{ranked}
use Rattle.std.proofs.lemmas.List.Sorted.{IsPermutation-reverse, ranks_by, sorted_far}
use Rattle.mxf_units.specs.Intervals.{greatest_ends}
use Rattle.mxf_units.specs.Units.{asked_end}
use Rattle.mxf_units.proofs.IntervalLaws.{ends-rise, length-ends, own_end}
use Rattle.mxf_units.proofs.NextPlaceLaws.{permuted}
use Rattle.mxf_verify.specs.Fixities.{AreUnitsOf, IsTouched}
use Rattle.mxf_verify.specs.Touching.{AreInOrder, AreSearched, BeginsBy, EndsBy, IsFirstAbove, back_of, cut_end}
use Rattle.mxf_verify.specs.Touching.{greatest_number, reach_of}
use Rattle.mxf_verify.specs.declared.unit_places.UnitPlace.{UnitPlace}
use Rattle.mxf_verify.proofs.FixityLaws.{cut_below, cut_same}
use Rattle.mxf_verify.proofs.ReachLaws.{first_reached}

-- ---- sorted by pairs of numbers

abbrev pub pair_cmp : ℕ × ℕ → ℕ × ℕ → Ordering
pair_cmp x y = ordering_then (nat_cmp x.0 y.0) (nat_cmp x.1 y.1)

pairs_total : IsTotalOrder pair_cmp
pairs_total = then_total (on_total (λ (p : ℕ × ℕ). p.0) nat_cmp_total) (on_total (λ (p : ℕ × ℕ). p.1) nat_cmp_total)

not_less : (b d : ℕ) → is_lt (nat_cmp b d) ≡ false → d ≤ b
not_less b d e = grind (arith, nat_cmp, is_lt, ranked)

pair_not_less : (a b c d : ℕ) → is_lt (ordering_then (nat_cmp a c) (nat_cmp b d)) ≡ false
    → (c < a) ⊎ ((c ≡ a) × (d ≤ b))
pair_not_less a b c d e = grind (arith, nat_cmp, is_lt, ordering_then, not_less, ranked)

by_pairs : (key : UnitPlace → ℕ × ℕ) (places : List UnitPlace) → IsSortedByKey key pair_cmp places
    → (i j : ℕ) (d : UnitPlace) → i ≤ j → j < length places
    → ((key (get_or places i d)).0 < (key (get_or places j d)).0)
    ⊎ (((key (get_or places i d)).0 ≡ (key (get_or places j d)).0)
    × ((key (get_or places i d)).1 ≤ (key (get_or places j d)).1))
by_pairs key places up i j d l h =
    let x = key (get_or places i d) in
    let y = key (get_or places j d) in
    pair_not_less y.0 y.1 x.0 x.1
    (sorted_far (λ p q. is_lt (pair_cmp (key p) (key q))) (ranks_by pairs_total key) places up i j d l h)

pub begin_in_order : (places : List UnitPlace) → IsSortedByKey (λ p. (p.extent.start, p.unit)) pair_cmp places
    → AreInOrder BeginsBy places
begin_in_order places up i j d l h = by_pairs (λ p. (p.extent.start, p.unit)) places up i j d l h

pub end_in_order : (places back : List UnitPlace) → IsSortedByKey (λ p. (reach_of p, p.unit)) pair_cmp places
    → back ≡ reverse places → AreInOrder EndsBy back
end_in_order places back up e = subst (λ (l : List UnitPlace). AreInOrder EndsBy l) (sym e) (λ i j d l h.
    let count : length (reverse places) ≡ length places = length-reverse places in
    let low : j < length places = omega (arith, h, count) in
    let last = length places - 1 in
    let at_i = get_or-reverse places i d (omega (arith, l, low)) in
    let at_j = get_or-reverse places j d low in
    let order : EndsBy (get_or places (last - i) d) (get_or places (last - j) d) =
    by_pairs (λ p. (reach_of p, p.unit)) places up (last - j) (last - i) d (omega (arith, l)) (omega (arith, l, low)) in
    subst (λ (p : UnitPlace). EndsBy p (get_or (reverse places) j d)) (sym at_i)
    (subst (λ (q : UnitPlace). EndsBy (get_or places (last - i) d) q) (sym at_j) order))

pub members_back : (xs ys zs : List UnitPlace) → IsPermutation xs ys → zs ≡ reverse ys → SameMembers zs xs
members_back xs ys zs p e = subst (λ (l : List UnitPlace). SameMembers l xs) (sym e) (λ x.
    let a = permuted xs ys p x in
    let b = permuted ys (reverse ys) (IsPermutation-reverse ys) x in (λ h. a.0 (b.0 h), λ h. b.1 (a.1 h)))

-- ---- the first above a bound

-- One of the places that a bound is looked for by: the first with a number above it.
pub record IsFoundBy (key : UnitPlace → ℕ) (places : List UnitPlace) (bound : ℕ) (p : UnitPlace) : Type 0 where
  pub place : ℕ
  pub within : place < length places
  pub is : p ≡ get_or places place p
  pub above : bound < key p
  pub behind : (x : UnitPlace) → In x places → bound < key x
      → (j : ℕ) × (place ≤ j) × (j < length places) × (get_or places j x ≡ x)

module _ (key : UnitPlace → ℕ) (places : List UnitPlace) (bound : ℕ) where
  found : (numbers : List ℕ) (p : UnitPlace) → numbers ≡ greatest_ends key 0 places
      → IsFirstAbove places numbers bound (Some p) → IsFoundBy key places bound p
  found numbers p e (k, within, is, below, above) =
      let low : AllWithin (λ n. n ≤ bound) (greatest_ends key 0 places) 0 k =
      subst (λ (l : List ℕ). AllWithin (λ n. n ≤ bound) l 0 k) e below in
      let high : bound < get_or (greatest_ends key 0 places) k 0 =
      subst (λ (l : List ℕ). bound < get_or l k 0) e above in record {
        place = k;
        within = within;
        is = is;
        above = subst (λ (q : UnitPlace). bound < key q) (sym is)
            (first_reached key 0 places k 0 bound p (omega arith) within low high);
        behind = λ x h more.
            let (j, there, at) = Contains-from_In x places h in
            elim (cases_lt j k) [
              | inl before ↦ (
                  let none = low j 0 (omega arith) before in
                  let own = own_end key 0 places j 0 x there in
                  let same = ap key at in absurd (omega (arith, none, own, same, more)))
              | inr late ↦ (j, late, there, at)
            ];
      }

  none_found : (numbers : List ℕ) → numbers ≡ greatest_ends key 0 places → IsFirstAbove places numbers bound None
      → (x : UnitPlace) → In x places → key x ≤ bound
  none_found numbers e f x h =
      let (j, there, at) = Contains-from_In x places h in
      let many = ap (λ (l : List ℕ). length l) e in
      let count = length-ends key 0 places in
      let low = subst (λ (l : List ℕ). get_or l j 0 ≤ bound) e
      (f j 0 (omega arith) (omega (arith, there, many, count))) in
      let own = own_end key 0 places j 0 x there in
      let same = ap key at in omega (arith, low, own, same)

-- What is found comes before each that has a number above the bound.
in_order : (R : UnitPlace → UnitPlace → Type 0) (key : UnitPlace → ℕ) (places : List UnitPlace) (bound : ℕ)
    (p x : UnitPlace) → AreInOrder R places → IsFoundBy key places bound p → In x places → bound < key x → R p x
in_order R key places bound p x order f h more =
    let s = f.behind x h more in
    let here : get_or places f.place x ≡ p = sym (f.is ∙ get_or_default places f.place p x f.within) in
    subst (λ (y : UnitPlace). R p y) s.3
    (subst (λ (y : UnitPlace). R y (get_or places s.0 x)) here (order f.place s.0 x s.1 s.2))

is_in : (key : UnitPlace → ℕ) (places : List UnitPlace) (bound : ℕ) (p : UnitPlace) → IsFoundBy key places bound p
    → In p places
is_in key places bound p f = subst (λ (y : UnitPlace). In y places) (sym f.is) (In-at places f.place p f.within)

-- ---- places that a note touches

-- A place that reaches above an offset has a byte, and reaches as far as it is asked about.
reach_above : (p : UnitPlace) (at : ℕ) → at < reach_of p
    → (p.extent.start < cut_end p.extent) × (reach_of p ≡ cut_end p.extent)
reach_above p at h = grind (arith, ltb-true)

reach_is : (p : UnitPlace) → p.extent.start < cut_end p.extent → reach_of p ≡ cut_end p.extent
reach_is p h = ap (λ (b : Bool). if b then cut_end p.extent else 0) (lt-ltb p.extent.start (cut_end p.extent) h)

module _ (n : NoteParts) (some : n.offset < covered_end n) (low : covered_end n ≤ greatest_end) where
  touches : (p : UnitPlace) → p.extent.start < covered_end n → n.offset < reach_of p → IsTouched n p
  touches p begins reaches =
      let r = reach_above p n.offset reaches in
      let has = r.0 in
      let reach = r.1 in
      let at = max n.offset p.extent.start in
      let under : at < greatest_number = omega (arith, some, begins, low) in (
        at,
        record { from = omega arith; before = omega (arith, some, begins) },
        omega arith,
        (cut_below p.extent at under).0 (omega (arith, has, reach, reaches)),
      )

  touched : (p : UnitPlace) → IsTouched n p
      → (p.extent.start < covered_end n) × (n.offset < reach_of p) × (reach_of p ≡ asked_end p.extent)
  touched p t = grind (arith, cut_below, reach_is, cut_same)

  module _ (firsts : List UnitPlace) (reaches : List ℕ) (lasts : List UnitPlace) (backs : List ℕ)
      (is : AreSearched firsts reaches lasts backs) where
    pub none_above : IsFirstAbove firsts reaches n.offset None → AreUnitsOf firsts n None
    none_above f p h t =
        let none = none_found reach_of firsts n.offset reaches is.reaches_are f p h in
        let hit = touched p t in
        let high = hit.1 in omega (arith, none, high)

    pub none_before : (p : UnitPlace) → IsFirstAbove firsts reaches n.offset (Some p) → covered_end n ≤ p.extent.start
        → AreUnitsOf firsts n None
    none_before p f late q h t =
        let first = found reach_of firsts n.offset reaches p is.reaches_are f in
        let hit = touched q t in
        let begins = hit.0 in
        elim (in_order BeginsBy reach_of firsts n.offset p q is.begin first h hit.1) [
          | inl l ↦ omega (arith, l, late, begins)
          | inr s ↦ (let same = s.0 in omega (arith, same, late, begins))
        ]

    behind : (x : UnitPlace) → x.extent.start < covered_end n → greatest_number - covered_end n < back_of x
    behind x begins = omega (arith, begins, low)

    begins_by : (x : UnitPlace) → greatest_number - covered_end n < back_of x → x.extent.start < covered_end n
    begins_by x back = omega (arith, back)

    -- The first that reaches above the note's offset begins before the note ends: the last is found too.
    pub last_found : (p : UnitPlace) → IsFirstAbove firsts reaches n.offset (Some p)
        → p.extent.start < covered_end n → IsFirstAbove lasts backs (greatest_number - covered_end n) None → ⊥
    last_found p f begins g =
        let first = found reach_of firsts n.offset reaches p is.reaches_are f in
        let there = (is.same p).1 (is_in reach_of firsts n.offset p first) in
        let none = none_found back_of lasts (greatest_number - covered_end n) backs is.backs_are g p there in
        let back = behind p begins in omega (arith, none, back)

    pub both_found : (p q : UnitPlace) → IsFirstAbove firsts reaches n.offset (Some p)
        → p.extent.start < covered_end n → IsFirstAbove lasts backs (greatest_number - covered_end n) (Some q)
        → AreUnitsOf firsts n (Some (record { first = p.unit; last = q.unit }))
    both_found p q f begins g =
        let first = found reach_of firsts n.offset reaches p is.reaches_are f in
        let last = found back_of lasts (greatest_number - covered_end n) backs q is.backs_are g in
        let one = is_in reach_of firsts n.offset p first in
        let other = (is.same q).0 (is_in back_of lasts (greatest_number - covered_end n) q last) in
        let high = first.above in
        let order = λ (x : UnitPlace) (h : In x firsts) (l : x.extent.start < covered_end n).
        in_order EndsBy back_of lasts (greatest_number - covered_end n) q x is.end last ((is.same x).1 h)
        (behind x l) in
        let reach : n.offset < reach_of q = elim (order p one begins) [
          | inl l ↦ omega (arith, l, high)
          | inr s ↦ (let same = s.0 in omega (arith, same, high))
        ] in
        let touches_q = touches q (begins_by q last.above) reach in
        let end_q = (touched q touches_q).2 in (
          record {
            place = p;
            is_one = one;
            touched = touches p begins high;
            unit_is = refl;
            first = λ x h t. in_order BeginsBy reach_of firsts n.offset p x is.begin first h (touched x t).1;
          },
          record {
            place = q;
            is_one = other;
            touched = touches_q;
            unit_is = refl;
            last = λ x h t.
                let hit = touched x t in
                let end_x = hit.2 in
                elim (order x h hit.0) [
                  | inl l ↦ inl (omega (arith, l, end_x, end_q))
                  | inr s ↦ inr (sym end_x ∙ s.0 ∙ end_q, s.1)
                ];
          },
        )

-- ---- what is known of lists by equal ones

pub same_above : (ps qs : List UnitPlace) (ms ns : List ℕ) (a b : ℕ) (o : Option UnitPlace) → ps ≡ qs → ms ≡ ns → a ≡ b
    → IsFirstAbove ps ms a o → IsFirstAbove qs ns b o
same_above ps qs ms ns a b o e f g h = subst (λ (l : List UnitPlace). IsFirstAbove l ns b o) e
    (subst (λ (l : List ℕ). IsFirstAbove ps l b o) f (subst (λ (k : ℕ). IsFirstAbove ps ms k o) g h))

pub numbers_rise : (key : UnitPlace → ℕ) (places : List UnitPlace) (numbers given : List ℕ) → given ≡ numbers
    → numbers ≡ greatest_ends key 0 places → IsNonDecreasing given
numbers_rise key places numbers given e f =
    subst (λ (l : List ℕ). IsNonDecreasing l) (sym (e ∙ f)) (ends-rise key 0 places)

pub as_many : (key : UnitPlace → ℕ) (places those : List UnitPlace) (numbers given : List ℕ) → those ≡ places
    → given ≡ numbers → numbers ≡ greatest_ends key 0 places → length those ≡ length given
as_many key places those numbers given d e f = ap (λ (l : List UnitPlace). length l) d ∙ sym (length-ends key 0 places)
    ∙ sym (ap (λ (l : List ℕ). length l) (e ∙ f))
