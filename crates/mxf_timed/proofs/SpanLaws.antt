-- Of spans that begin up to a number, the one that ends last tells whether one alone has the number.
use Rattle.std.proofs.Common.{◌≡◌, ◌⊎◌, ◌∙◌, ◌+◌, ◌-◌, ◌^◌, ◌<◌, ◌≤◌, ◌&&◌, ℕ, zero, suc, Bool, true, false, cond, refl}
use Rattle.std.proofs.Common.{sym, ap, subst, inl, inr, arith, List, [], ◌∷◌, Option, Some, None, count_by, filter}
use Rattle.std.proofs.Common.{add-zero, length, max, min, nat_le, nat_lt, slice_get, take, unwrap_or}
use Rattle.std.specs.List.{AllWithin}
use Rattle.std.specs.List.Sorted.{IsPermutation}
use Rattle.std.specs.Option.{option_map_or}
use Rattle.std.proofs.lemmas.Bool.{and_parts, cases_lt, le-leb, le-ltb, leb-true, lt-leb, lt-ltb, ltb-false, ltb-true}
use Rattle.std.proofs.lemmas.Bool.Decides.{nat_tests}
use Rattle.std.proofs.lemmas.List.Sorted.{Contains-permutation, IsPermutation-sym, sum_by-IsPermutation}
use Rattle.std.proofs.lemmas.List.Sums.{length-filter}
use Rattle.std.proofs.lemmas.Option.{same_Some}
use Rattle.mxf_klv.specs.Rising.{In}
use Rattle.mxf_klv.proofs.Counts.{count_by-cons, tally}
use Rattle.mxf_klv.proofs.Lists.{Contains-from_In, In-from_Contains, In-filter}
use Rattle.mxf_clocks.specs.Runs.{RunParts, has_position}
use Rattle.mxf_timed.specs.declared.coverage.Latest.{Latest}
use Rattle.mxf_timed.specs.declared.coverage.Span.{Span}
use Rattle.mxf_timed.specs.Spans.{AreSpans, is_alone_at, latest_from, no_latest, span_of, spans_from, with_span}

abbrev pub ends_above : ℕ → Span → Bool
ends_above p s = nat_lt p s.end

abbrev pub has : ℕ → Span → Bool
has p s = nat_le s.first p && nat_lt p s.end

-- How many of some spans end above a number, by the one that ends last.
pub record Tells (n : ℕ → ℕ) (l : Latest) : Type 0 where
  pub order : l.other ≤ l.end
  pub none : (p : ℕ) → l.end ≤ p → n p ≡ 0
  pub one : (p : ℕ) → l.other ≤ p → p < l.end → n p ≡ 1
  pub more : (p : ℕ) → p < l.other → 1 < n p

some_told : (n : ℕ → ℕ) (l : Latest) (p : ℕ) → Tells n l → p < l.end → 0 < n p
some_told n l p t h = elim (cases_lt p l.other) [
  | inl m ↦ let e = t.more p m in omega (arith, e)
  | inr m ↦ let e = t.one p m h in omega (arith, e)
]

tally-true : (p e : ℕ) → p < e → tally (nat_lt p e) ≡ 1
tally-true p e h = ap tally (lt-ltb p e h)

tally-false : (p e : ℕ) → e ≤ p → tally (nat_lt p e) ≡ 0
tally-false p e h = ap tally (le-ltb p e h)

told-later : (n : ℕ → ℕ) (l : Latest) (s : Span) → Tells n l → l.end < s.end
    → Tells (λ p. n p + tally (nat_lt p s.end)) (record { place = s.place; end = s.end; other = l.end })
told-later n l s t later = record {
  order = omega (arith, later);
  none = λ p h. let a = t.none p (omega (arith, h, later)) in let b = tally-false p s.end h in omega (arith, a, b);
  one = λ p h k. let a = t.none p h in let b = tally-true p s.end k in omega (arith, a, b);
  more = λ p h.
      let a = some_told n l p t h in let b = tally-true p s.end (omega (arith, h, later)) in omega (arith, a, b);
}

told-earlier : (n : ℕ → ℕ) (l : Latest) (s : Span) → Tells n l → s.end ≤ l.end
    → Tells (λ p. n p + tally (nat_lt p s.end)) (record { place = l.place; end = l.end; other = max l.other s.end })
told-earlier n l s t earlier = record {
  order = let o = t.order in omega (arith, o, earlier);
  none = λ p h.
      let a = t.none p h in let b = tally-false p s.end (omega (arith, h, earlier)) in omega (arith, a, b);
  one = λ p h k.
      let a = t.one p (omega (arith, h)) k in let b = tally-false p s.end (omega (arith, h)) in omega (arith, a, b);
  more = λ p h. elim (cases_lt p l.other) [
    | inl m ↦ let a = t.more p m in omega (arith, a)
    | inr m ↦
        let k : p < s.end = omega (arith, m, h) in
        let a = some_told n l p t (omega (arith, k, earlier)) in let b = tally-true p s.end k in omega (arith, a, b)
  ];
}

told-with : (n : ℕ → ℕ) (l : Latest) (s : Span) → Tells n l
    → Tells (λ p. n p + tally (nat_lt p s.end)) (with_span l s)
told-with n l s t = elim (cases_lt l.end s.end) [
  | inl h ↦
      subst (λ (b : Bool). Tells (λ p. n p + tally (nat_lt p s.end)) (cond b
      (record { place = s.place; end = s.end; other = l.end })
      (record { place = l.place; end = l.end; other = max l.other s.end }))) (sym (lt-ltb l.end s.end h))
      (told-later n l s t h)
  | inr h ↦
      subst (λ (b : Bool). Tells (λ p. n p + tally (nat_lt p s.end)) (cond b
      (record { place = s.place; end = s.end; other = l.end })
      (record { place = l.place; end = l.end; other = max l.other s.end }))) (sym (le-ltb l.end s.end h))
      (told-earlier n l s t h)
]

-- What is told with some spans more.
abbrev pub latest_after : Latest → List Span → Latest
latest_after l [] = l
latest_after l (s ∷ spans) = latest_after (with_span l s) spans

told-after : (n : ℕ → ℕ) (l : Latest) (spans : List Span) → Tells n l
    → Tells (λ p. n p + count_by (ends_above p) spans) (latest_after l spans)
told-after n l [] t = record {
  order = t.order;
  none = λ p h. let a = t.none p h in omega (arith, a);
  one = λ p h k. let a = t.one p h k in omega (arith, a);
  more = λ p h. let a = t.more p h in omega (arith, a);
}
told-after n l (s ∷ spans) t =
    let ih = told-after (λ p. n p + tally (nat_lt p s.end)) (with_span l s) spans (told-with n l s t) in
    let c = λ (p : ℕ). count_by-cons (ends_above p) s spans in
    record {
      order = ih.order;
      none = λ p h. let a = ih.none p h in omega (arith, a, c p);
      one = λ p h k. let a = ih.one p h k in omega (arith, a, c p);
      more = λ p h. let a = ih.more p h in omega (arith, a, c p);
    }

pub told : (spans : List Span) → Tells (λ p. count_by (ends_above p) spans) (latest_after no_latest spans)
told spans =
    let t = told-after (λ p. 0) no_latest spans (record {
      order = omega arith;
      none = λ p h. refl;
      one = λ p h k. absurd (omega (arith, k));
      more = λ p h. absurd (omega (arith, h));
    }) in
    record {
      order = t.order;
      none = λ p h. let a = t.none p h in omega (arith, a);
      one = λ p h k. let a = t.one p h k in omega (arith, a);
      more = λ p h. let a = t.more p h in omega (arith, a);
    }

-- It is told of one of the spans, or as before.
chosen : (b : Bool) (x y : Latest) → (cond b x y ≡ x) ⊎ (cond b x y ≡ y)
chosen true x y = inl refl
chosen false x y = inr refl

kept : (l : Latest) (s : Span)
    → ((with_span l s).end ≡ s.end) × ((with_span l s).place ≡ s.place)
    ⊎ ((with_span l s).end ≡ l.end) × ((with_span l s).place ≡ l.place)
kept l s =
    let later : Latest = record { place = s.place; end = s.end; other = l.end } in
    let earlier : Latest = record { place = l.place; end = l.end; other = max l.other s.end } in
    elim (chosen (nat_lt l.end s.end) later earlier) [
      | inl e ↦ inl (ap (λ (x : Latest). x.end) e, ap (λ (x : Latest). x.place) e)
      | inr e ↦ inr (ap (λ (x : Latest). x.end) e, ap (λ (x : Latest). x.place) e)
    ]

-- A span among these that ends there and stands at the place.
record IsAmong (spans : List Span) (l : Latest) : Type 0 where
  span : Span
  held : In span spans
  ends : span.end ≡ l.end
  stands : span.place ≡ l.place

of_one : (l : Latest) (spans : List Span)
    → IsAmong spans (latest_after l spans)
    ⊎ ((latest_after l spans).end ≡ l.end) × ((latest_after l spans).place ≡ l.place)
of_one l [] = inr (refl, refl)
of_one l (s ∷ spans) = elim (of_one (with_span l s) spans) [
  | inl a ↦ inl (record { span = a.span; held = inr a.held; ends = a.ends; stands = a.stands })
  | inr a ↦ elim (kept l s) [
    | inl k ↦ inl (record { span = s; held = inl refl; ends = sym (a.0 ∙ k.0); stands = sym (a.1 ∙ k.1) })
    | inr k ↦ inr (a.0 ∙ k.0, a.1 ∙ k.1)
  ]
]

latest-get : (l : Latest) (spans : List Span) (k : ℕ) → k ≤ length spans
    → slice_get (latest_from l spans) k ≡ Some (latest_after l (take k spans))
latest-get l [] zero h = refl
latest-get l [] (suc k) h = absurd (omega arith)
latest-get l (s ∷ spans) zero h = refl
latest-get l (s ∷ spans) (suc k) h = latest-get (with_span l s) spans k (omega arith)

-- Those that begin up to a number are the first so many.
count-begun : (p : ℕ) (q : Span → Bool) (spans : List Span) (k : ℕ) → k ≤ length spans
    → AllWithin (λ s. s.first ≤ p) spans 0 k → AllWithin (λ s. p < s.first) spans k (length spans)
    → count_by (λ s. nat_le s.first p && q s) spans ≡ count_by q (take k spans)
count-begun p q [] zero h f g = refl
count-begun p q [] (suc k) h f g = absurd (omega arith)
count-begun p q (s ∷ spans) zero h f g =
    let c = count_by-cons (λ x. nat_le x.first p && q x) s spans in
    let no : nat_le s.first p ≡ false = lt-leb _ _ (g 0 s (omega arith) (omega arith)) in
    let z : tally (nat_le s.first p && q s) ≡ 0 = ap (λ b. tally (b && q s)) no in
    let ih = count-begun p q spans 0 (omega arith) (λ i d a b. absurd (omega arith))
    (λ i d a b. g (suc i) d (omega arith) (omega arith)) in
    omega (arith, c, z, ih)
count-begun p q (s ∷ spans) (suc k) h f g =
    let c = count_by-cons (λ x. nat_le x.first p && q x) s spans in
    let e = count_by-cons q s (take k spans) in
    let yes : nat_le s.first p ≡ true = le-leb _ _ (f 0 s (omega arith) (omega arith)) in
    let z : tally (nat_le s.first p && q s) ≡ tally (q s) = ap (λ b. tally (b && q s)) yes in
    let ih = count-begun p q spans k (omega arith) (λ i d a b. f (suc i) d (omega arith) (omega arith))
    (λ i d a b. g (suc i) d (omega arith) (omega arith)) in
    omega (arith, c, e, z, ih)

In-take : {K : Type 0} (x : K) (xs : List K) (k : ℕ) → In x (take k xs) → In x xs
In-take x [] zero h = absurd h
In-take x [] (suc k) h = absurd h
In-take x (y ∷ xs) zero h = absurd h
In-take x (y ∷ xs) (suc k) (inl e) = inl e
In-take x (y ∷ xs) (suc k) (inr h) = inr (In-take x xs k h)

-- One of the first so many begins up to the number.
begun-In : (p : ℕ) (x : Span) (spans : List Span) (k : ℕ) → k ≤ length spans
    → AllWithin (λ s. s.first ≤ p) spans 0 k → In x (take k spans) → x.first ≤ p
begun-In p x [] zero h f i = absurd i
begun-In p x [] (suc k) h f i = absurd (omega arith)
begun-In p x (s ∷ spans) zero h f i = absurd i
begun-In p x (s ∷ spans) (suc k) h f (inl e) =
    subst (λ (y : Span). y.first ≤ p) (sym e) (f 0 s (omega arith) (omega arith))
begun-In p x (s ∷ spans) (suc k) h f (inr i) =
    begun-In p x spans k (omega arith) (λ j d a b. f (suc j) d (omega arith) (omega arith)) i

-- ---- the runs

has-position : (r : RunParts) (place p : ℕ) → p < 2 ^ 64 → has p (span_of place r) ≡ has_position r p
has-position r place p small = by_count r.position p small r.count
  where
    by_count : (a p : ℕ) → p < 2 ^ 64 → (count : Option ℕ)
        → (nat_le a p && nat_lt p (a + min (unwrap_or count (2 ^ 64)) (2 ^ 64)))
        ≡ (nat_le a p && option_map_or (λ c. nat_lt (p - a) c) count true)
    by_count a p small None = grind (arith, nat_tests)
    by_count a p small (Some c) = grind (arith, nat_tests)

count-runs : (p : ℕ) → p < 2 ^ 64 → (runs : List RunParts) (place : ℕ)
    → count_by (has p) (spans_from place runs) ≡ count_by (λ r. has_position r p) runs
count-runs p small [] place = refl
count-runs p small (r ∷ runs) place =
    count_by-cons (has p) (span_of place r) (spans_from (place + 1) runs)
    ∙ ap (λ b. tally b + count_by (has p) (spans_from (place + 1) runs)) (has-position r place p small)
    ∙ ap (λ n. tally (has_position r p) + n) (count-runs p small runs (place + 1))
    ∙ sym (count_by-cons (λ r. has_position r p) r runs)

-- A span is that of the run that stands at its place.
record IsSpanOf (runs : List RunParts) (place : ℕ) (s : Span) : Type 0 where
  at : ℕ
  stands : s.place ≡ place + at
  run : RunParts
  found : slice_get runs at ≡ Some run
  held : In run runs
  span_is : s ≡ span_of s.place run

span-of : (runs : List RunParts) (place : ℕ) (s : Span) → In s (spans_from place runs) → IsSpanOf runs place s
span-of [] place s h = absurd h
span-of (r ∷ runs) place s (inl e) = record {
  at = 0;
  stands = ap (λ (x : Span). x.place) e ∙ sym (add-zero place);
  run = r;
  found = refl;
  held = inl refl;
  span_is = e ∙ ap (λ n. span_of n r) (sym (ap (λ (x : Span). x.place) e));
}
span-of (r ∷ runs) place s (inr h) = let i = span-of runs (place + 1) s h in record {
  at = suc i.at;
  stands = let e = i.stands in omega (arith, e);
  run = i.run;
  found = i.found;
  held = inr i.held;
  span_is = i.span_is;
}

-- Where one is counted and one passes, it is what is left.
pub only-left : {K : Type 0} (p : K → Bool) (xs : List K) (x : K) → count_by p xs ≡ 1 → In x xs → p x ≡ true
    → filter p xs ≡ x ∷ []
only-left p xs x one held t =
    alone (filter p xs) x (length-filter p xs ∙ one) ((In-filter p xs x).1 (held, t))
  where
    alone : {K : Type 0} (ys : List K) (x : K) → length ys ≡ 1 → In x ys → ys ≡ x ∷ []
    alone [] x e h = absurd h
    alone (y ∷ []) x e (inl h) = ap (λ z. z ∷ []) (sym h)
    alone (y ∷ []) x e (inr h) = absurd h
    alone (y ∷ z ∷ ys) x e h = absurd (omega (arith, e))

module _ (runs : List RunParts) (spans : List Span) (permuted : IsPermutation (spans_from 0 runs) spans) (p k : ℕ)
    (small : p < 2 ^ 64) (bound : k ≤ length spans) (below : AllWithin (λ s. s.first ≤ p) spans 0 k)
    (above : AllWithin (λ s. p < s.first) spans k (length spans)) where
  counted : count_by (λ r. has_position r p) runs ≡ count_by (ends_above p) (take k spans)
  counted = sym (count-runs p small runs 0)
      ∙ sym (sum_by-IsPermutation (λ s. cond (has p s) 1 0) (spans_from 0 runs) spans permuted)
      ∙ count-begun p (ends_above p) spans k bound below above

  latest_is : (l : Latest) → slice_get (latest_from no_latest spans) k ≡ Some l
      → latest_after no_latest (take k spans) ≡ l
  latest_is l found = same_Some _ _ (sym (latest-get no_latest spans k bound) ∙ found)

  tells : (l : Latest) → slice_get (latest_from no_latest spans) k ≡ Some l
      → Tells (λ p. count_by (ends_above p) (take k spans)) l
  tells l found =
      subst (λ (m : Latest). Tells (λ p. count_by (ends_above p) (take k spans)) m) (latest_is l found)
      (told (take k spans))

  among : (l : Latest) → slice_get (latest_from no_latest spans) k ≡ Some l → 0 < l.end → IsAmong (take k spans) l
  among l found some =
      elim (subst (λ (m : Latest). IsAmong (take k spans) m ⊎ (m.end ≡ 0) × (m.place ≡ 0)) (latest_is l found)
      (of_one no_latest (take k spans))) [
        | inl a ↦ a
        | inr a ↦ let e = a.0 in absurd (omega (arith, e, some))
      ]

  -- The one that ends last has the number.
  found-span : (l : Latest) (x : Span) → In x (take k spans) → x.end ≡ l.end → x.place ≡ l.place → p < l.end
      → count_by (ends_above p) (take k spans) ≡ 1
      → (r : RunParts) × (slice_get runs l.place ≡ Some r) × (filter (λ r. has_position r p) runs ≡ r ∷ [])
  found-span l x held ends stands end one =
      let first = begun-In p x spans k bound below held in
      let i = span-of runs 0 x (In-from_Contains x _ (Contains-permutation spans (spans_from 0 runs) x
      (IsPermutation-sym _ _ permuted) (Contains-from_In x spans (In-take x spans k held)))) in
      let there : i.at ≡ l.place = let e = i.stands in omega (arith, e, stands) in
      let high : p < x.end = omega (arith, end, ends) in
      let t : has p x ≡ true = ap (λ b. b && nat_lt p x.end) (le-leb x.first p first) ∙ lt-ltb p x.end high in (
        i.run,
        ap (slice_get runs) (sym there) ∙ i.found,
        only-left (λ r. has_position r p) runs i.run (counted ∙ one) i.held
            (sym (has-position i.run x.place p small) ∙ ap (has p) (sym i.span_is) ∙ t),
      )

  pub found-one : (l : Latest) → slice_get (latest_from no_latest spans) k ≡ Some l → l.other ≤ p → p < l.end
      → (r : RunParts) × (slice_get runs l.place ≡ Some r) × (filter (λ r. has_position r p) runs ≡ r ∷ [])
  found-one l found other end =
      let a = among l found (omega (arith, end)) in
      found-span l a.span a.held a.ends a.stands end ((tells l found).one p other end)

  pub found-none : (l : Latest) → slice_get (latest_from no_latest spans) k ≡ Some l
      → (p < l.other) ⊎ (l.end ≤ p) → (run : RunParts) → filter (λ r. has_position r p) runs ≡ run ∷ [] → ⊥
  found-none l found far run e =
      let one : count_by (λ r. has_position r p) runs ≡ 1 =
      sym (length-filter (λ r. has_position r p) runs) ∙ ap length e in
      let same = counted in
      elim far [
        | inl h ↦ let m = (tells l found).more p h in omega (arith, m, one, same)
        | inr h ↦ let m = (tells l found).none p h in omega (arith, m, one, same)
      ]

-- ---- what is told of the first so many spans

pub length-latest : (l : Latest) (spans : List Span) → length (latest_from l spans) ≡ length spans + 1
length-latest l [] = refl
length-latest l (s ∷ spans) = let ih = length-latest (with_span l s) spans in omega (arith, ih)

-- Spans begin up to a number as far as the place, and above it from there on.
pub record BeginUpTo (spans : List Span) (p k : ℕ) : Type 0 where
  pub bound : k ≤ length spans
  pub below : AllWithin (λ s. s.first ≤ p) spans 0 k
  pub above : AllWithin (λ s. p < s.first) spans k (length spans)

-- There is one for each place.
pub never_past : (runs : List RunParts) (spans : List Span) (latest : List Latest) (p k : ℕ)
    → AreSpans runs spans latest → BeginUpTo spans p k → length latest ≤ k → ⊥
never_past runs spans latest p k are begin past =
    let b = begin.bound in let e = ap length are.latest_are ∙ length-latest no_latest spans in omega (arith, b, e, past)

pub found_at : (runs : List RunParts) (spans : List Span) (latest : List Latest) (p k : ℕ) (l : Latest) → p < 2 ^ 64
    → AreSpans runs spans latest → BeginUpTo spans p k → slice_get latest k ≡ Some l → is_alone_at l p ≡ true
    → (r : RunParts) × (slice_get runs l.place ≡ Some r) × (filter (λ r. has_position r p) runs ≡ r ∷ [])
found_at runs spans latest p k l small are begin found alone =
    let both = and_parts (nat_le l.other p) (nat_lt p l.end) alone in
    found-one runs spans are.of_runs p k small begin.bound begin.below begin.above l
    (ap (λ (xs : List Latest). slice_get xs k) (sym are.latest_are) ∙ found) (leb-true _ _ both.0) (ltb-true _ _ both.1)

pub none_at : (runs : List RunParts) (spans : List Span) (latest : List Latest) (p k : ℕ) (l : Latest) → p < 2 ^ 64
    → AreSpans runs spans latest → BeginUpTo spans p k → slice_get latest k ≡ Some l → is_alone_at l p ≡ false
    → (run : RunParts) → filter (λ r. has_position r p) runs ≡ run ∷ [] → ⊥
none_at runs spans latest p k l small are begin found alone =
    found-none runs spans are.of_runs p k small begin.bound begin.below begin.above l
    (ap (λ (xs : List Latest). slice_get xs k) (sym are.latest_are) ∙ found) (far p l.other l.end alone)
  where
    far : (p other end : ℕ) → (nat_le other p && nat_lt p end) ≡ false → (p < other) ⊎ (end ≤ p)
    far p other end e = elim (cases_lt p other) [
      | inl h ↦ inl h
      | inr h ↦ inr (ltb-false _ _ (sym (ap (λ b. b && nat_lt p end) (le-leb other p h)) ∙ e))
    ]
