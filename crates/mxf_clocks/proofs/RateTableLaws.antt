-- What is kept of the rates of indexes tells at which rates they are timed.
use Rattle.mxf_views.proofs.Common.{◌≡◌, ◌∙◌, ◌&&◌, ◌||◌, ◌+◌, ◌*◌, ◌<◌, ◌==◌, ℕ, Bool, true, false, cond, not, refl, sym, ap}
use Rattle.mxf_views.proofs.Common.{at_drop_more, drop, get_or, length}
use Rattle.mxf_views.proofs.Common.{arith, inl, inr, cases_lt, and_from, and_parts, eq-eqb, eqb-true, unsigned_abs}
use Rattle.mxf_views.proofs.Common.{List, ◌∷◌, Option, Some, None, list_all, SegmentAtParts, BTreeMap, get, is_at}
use Rattle.mxf_views.proofs.Common.{nat_cmp, at_equal, at_other, false_from_ne_true}
use Rattle.std.proofs.Math.Nat.{mul-lt-mul_of_pos_right}
use Rattle.mxf_sets.specs.Rate.{is_good, is_same_rate}
use Rattle.mxf_sets.specs.declared.record.rate.Rate.{Rate}
use Rattle.mxf_clocks.specs.Lookups.{timed_by, timed_in, with_rate}
use Rattle.mxf_clocks.specs.TracksFor.{agrees, index_rate}
use Rattle.mxf_clocks.proofs.RateLaws.{good_parts}

-- ---- equal rates

record AreSame (a b : Rate) : Type 0 where
  one : is_good a ≡ true
  other : is_good b ≡ true
  across : unsigned_abs a.numerator * unsigned_abs b.denominator ≡ unsigned_abs b.numerator * unsigned_abs a.denominator

same_says : (a b : Rate) → is_same_rate a b ≡ true → AreSame a b
same_says a b e =
    let x = unsigned_abs a.numerator * unsigned_abs b.denominator in
    let y = unsigned_abs b.numerator * unsigned_abs a.denominator in
    let p = and_parts (is_good a && is_good b) (x == y) e in
    let q = and_parts (is_good a) (is_good b) p.0 in
    record { one = q.0; other = q.1; across = eqb-true x y p.1 }

same_from : (a b : Rate) → AreSame a b → is_same_rate a b ≡ true
same_from a b s =
    let x = unsigned_abs a.numerator * unsigned_abs b.denominator in
    let y = unsigned_abs b.numerator * unsigned_abs a.denominator in
    and_from (is_good a && is_good b) (x == y) (and_from (is_good a) (is_good b) s.one s.other) (eq-eqb x y s.across)

same_factor : (x y g : ℕ) → 0 < g → x * g ≡ y * g → x ≡ y
same_factor x y g some e = elim (cases_lt x y) [
  | inl l ↦ absurd (let k = mul-lt-mul_of_pos_right l some in omega (arith, e, k))
  | inr m ↦ elim (cases_lt y x) [
    | inl l ↦ absurd (let k = mul-lt-mul_of_pos_right l some in omega (arith, e, k))
    | inr n ↦ omega (arith, m, n)
  ]
]

same_back : (a b : Rate) → AreSame a b → AreSame b a
same_back a b s = record { one = s.other; other = s.one; across = sym s.across }

same_on : (a b c : Rate) → AreSame a b → AreSame b c → AreSame a c
same_on a b c s t =
    let an = unsigned_abs a.numerator in
    let ad = unsigned_abs a.denominator in
    let bn = unsigned_abs b.numerator in
    let bd = unsigned_abs b.denominator in
    let cn = unsigned_abs c.numerator in
    let cd = unsigned_abs c.denominator in
    let first : an * cd * bd ≡ an * bd * cd = omega arith in
    let second : bn * ad * cd ≡ bn * cd * ad = omega arith in
    let third : cn * bd * ad ≡ cn * ad * bd = omega arith in
    let e : an * cd * bd ≡ cn * ad * bd =
    first ∙ ap (λ x. x * cd) s.across ∙ second ∙ ap (λ x. x * ad) t.across ∙ third in
    record {
      one = s.one;
      other = t.other;
      across = same_factor (an * cd) (cn * ad) bd (good_parts b s.other).1 e;
    }

same_test : (a b c : Rate) → is_same_rate a b ≡ true → is_same_rate b c ≡ is_same_rate a c
same_test a b c e =
    let s = same_says a b e in
    elim (is_same_rate b c) as (λ t. is_same_rate b c ≡ t → t ≡ is_same_rate a c) [
      | true ↦ λ f. sym (same_from a c (same_on a b c s (same_says b c f)))
      | false ↦ λ f. sym (false_from_ne_true (is_same_rate a c) (λ g.
          let k = same_from b c (same_on b a c (same_back a b s) (same_says a c g)) in cc (f, k)))
    ] refl

-- ---- one more rate

and_itself : (b : Bool) → b ≡ (b && b)
and_itself true = refl
and_itself false = refl

and_true : (b : Bool) → b ≡ (b && true)
and_true true = refl
and_true false = refl

and_false : (b : Bool) → false ≡ (b && false)
and_false true = refl
and_false false = refl

timed_with : (kept : Option (Option Rate)) (r rate : Rate)
    → timed_by (Some (with_rate kept r)) rate ≡ (timed_by kept rate && is_same_rate r rate)
timed_with None r rate = refl
timed_with (Some None) r rate = refl
timed_with (Some (Some first)) r rate =
    elim (is_same_rate first r) as (λ b. is_same_rate first r ≡ b
    → timed_by (Some (cond b (Some first) None)) rate ≡ (is_same_rate first rate && is_same_rate r rate)) [
      | true ↦ λ e. and_itself (is_same_rate first rate)
          ∙ ap (λ b. is_same_rate first rate && b) (sym (same_test first r rate e))
      | false ↦ λ e. sym (false_from_ne_true (is_same_rate first rate && is_same_rate r rate) (λ g.
          let p = and_parts (is_same_rate first rate) (is_same_rate r rate) g in
          let back = same_back r rate (same_says r rate p.1) in
          let k = same_from first r (same_on first rate r (same_says first rate p.0) back) in cc (e, k)))
    ] refl

timed-added : (old new : BTreeMap ℕ (Option Rate)) (key : ℕ) (r : Rate) (value : Option Rate)
    → value ≡ with_rate (get nat_cmp old key) r
    → ((q : ℕ) → get nat_cmp new q ≡ cond (is_at (nat_cmp key) q) (Some value) (get nat_cmp old q))
    → (index_sid : ℕ) (rate : Rate)
    → timed_in new index_sid rate ≡ (timed_in old index_sid rate && (not (key == index_sid) || is_same_rate r rate))
timed-added old new key r value kept updated index_sid rate =
    elim (key == index_sid) as (λ b. (key == index_sid) ≡ b
    → timed_in new index_sid rate ≡ (timed_in old index_sid rate && (not b || is_same_rate r rate))) [
      | true ↦ λ e.
          let same : key ≡ index_sid = eqb-true key index_sid e in
          ap (λ o. timed_by o rate) (updated index_sid
          ∙ ap (λ b. cond b (Some value) (get nat_cmp old index_sid)) (at_equal key index_sid same)
          ∙ ap (λ o. Some o) (kept ∙ ap (λ k. with_rate (get nat_cmp old k) r) same))
          ∙ timed_with (get nat_cmp old index_sid) r rate
      | false ↦ λ e. ap (λ o. timed_by o rate) (updated index_sid
          ∙ ap (λ b. cond b (Some value) (get nat_cmp old index_sid)) (at_other key index_sid e))
          ∙ and_true (timed_in old index_sid rate)
    ] refl

-- ---- over all segments

-- The segments that are left, and what is kept of those before.
abbrev pub timed_yet : BTreeMap ℕ (Option Rate) → List SegmentAtParts → ℕ → Rate → Bool
timed_yet kept left index_sid rate = list_all (agrees index_sid rate) left && timed_in kept index_sid rate

moved : (a b c : Bool) → (b && (c && a)) ≡ ((a && b) && c)
moved true true true = refl
moved true true false = refl
moved true false c = refl
moved false true true = refl
moved false true false = refl
moved false false c = refl

timed-step : (old new : BTreeMap ℕ (Option Rate)) (s : SegmentAtParts) (left : List SegmentAtParts) (index_sid : ℕ)
    (rate : Rate) → timed_in new index_sid rate ≡ (timed_in old index_sid rate && agrees index_sid rate s)
    → timed_yet new left index_sid rate ≡ timed_yet old (s ∷ left) index_sid rate
timed-step old new s left index_sid rate e =
    ap (λ b. list_all (agrees index_sid rate) left && b) e
    ∙ moved (agrees index_sid rate s) (list_all (agrees index_sid rate) left) (timed_in old index_sid rate)

pub timed-next : (old new : BTreeMap ℕ (Option Rate)) (segments : List SegmentAtParts) (i : ℕ) (item : SegmentAtParts)
    (index_sid : ℕ) (rate : Rate) (all : Bool) → i < length segments → item ≡ get_or segments i item
    → timed_in new index_sid rate ≡ (timed_in old index_sid rate && agrees index_sid rate item)
    → timed_yet old (drop i segments) index_sid rate ≡ all → timed_yet new (drop (i + 1) segments) index_sid rate ≡ all
timed-next old new segments i item index_sid rate all here at e before =
    timed-step old new (get_or segments i item) (drop (i + 1) segments) index_sid rate
    (e ∙ ap (λ s. timed_in old index_sid rate && agrees index_sid rate s) at)
    ∙ sym (at_drop_more (λ (left : List SegmentAtParts). timed_yet old left index_sid rate) segments i item here) ∙ before

-- What a segment states is put in.
pub timed-put : (old new : BTreeMap ℕ (Option Rate)) (key : ℕ) (s : SegmentAtParts) (value : Option Rate)
    → key ≡ s.segment.numbers.index_sid → value ≡ with_rate (get nat_cmp old key) (index_rate s.segment.numbers)
    → ((q : ℕ) → get nat_cmp new q ≡ cond (is_at (nat_cmp key) q) (Some value) (get nat_cmp old q))
    → (index_sid : ℕ) (rate : Rate)
    → timed_in new index_sid rate ≡ (timed_in old index_sid rate && agrees index_sid rate s)
timed-put old new key s value key_is kept updated index_sid rate =
    timed-added old new key (index_rate s.segment.numbers) value kept updated index_sid rate
    ∙ ap (λ k. timed_in old index_sid rate
    && (not (k == index_sid) || is_same_rate (index_rate s.segment.numbers) rate)) key_is
